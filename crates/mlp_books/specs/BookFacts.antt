-- What is computed of the three books.
use Rattle.std.specs.Prelude.{◌≡◌, refl, length}
use Rattle.mlp_bits.specs.Bits.{bits}
use Rattle.mlp_books.specs.Books.{book1, book2, book3, begins, find_symbol, all_below, is_free, is_wide, is_whole, Passes}

pub counted1 : length book1 ≡ 18
unfolding book1
counted1 = refl

pub counted2 : length book2 ≡ 16
unfolding book2
counted2 = refl

pub counted3 : length book3 ≡ 15
unfolding book3
counted3 = refl

pub passes1 : Passes book1
unfolding book1 bits begins find_symbol is_free is_wide is_whole all_below
passes1 = record { free = refl; wide = refl; whole = refl }

pub passes2 : Passes book2
unfolding book2 bits begins find_symbol is_free is_wide is_whole all_below
passes2 = record { free = refl; wide = refl; whole = refl }

pub passes3 : Passes book3
unfolding book3 bits begins find_symbol is_free is_wide is_whole all_below
passes3 = record { free = refl; wide = refl; whole = refl }
