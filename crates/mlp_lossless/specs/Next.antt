-- One more unit that is sent, as a decoder takes it that follows.
use Rattle.std.specs.Prelude.{◌≡◌, ◌<◌, ℕ, Bool, true, false, List, [], ◌∷◌, ◌++◌, map, All, Some, Ok, ℤ}
use Rattle.mlp_bits.specs.Bits.{bits_of}
use Rattle.mlp_layout.specs.Streams.{IsNext, spelling_of}
use Rattle.mlp_unit.specs.AccessUnit.{in_force}
use Rattle.mlp_contents.specs.Units.{Unit_of, frames_out, after, whole}
use Rattle.mlp_contents.specs.Units.{Left as Decoded}
use Rattle.mlp_fold.specs.declared.profile.Profile.{Profile}
use Rattle.mlp_fold.specs.Mix.{presented_of}
use Rattle.mlp_fold.specs.Profile.{checked}
use Rattle.mlp_fold.specs.Substreams.{substreams_of}
use Rattle.mlp_encode.specs.Numbers.{low_zeros}
use Rattle.mlp_encode.specs.Sync.{sync_of}
use Rattle.mlp_encode.specs.Left.{Going, Left, going}
use Rattle.mlp_encode.specs.Unit.{AreNext, next_sent}
use Rattle.mlp_encode.specs.Sent.{sent}
use Rattle.mlp_lossless.specs.Following.{Follows}

-- of these frames units were sent, none of them the last, and this is left
pub record HasSent (p : Profile) (frames : List (List (List ℤ))) (units : List (List ℕ)) (e : Going) : Type 0 where
  pub profile : checked p ≡ Ok tt
  pub full : All (λ f. AreNext p f false) frames
  pub sent_is : sent false (Ok (going p)) frames ≡ record { units = units; end = Ok (Ok e) }

-- The bytes are a unit for a decoder of presentation j, whatever stands behind them, and give what the presentation shows
-- of the frames. Behind them the decoder follows on, unless they are the last.
pub record IsFollowed (p : Profile) (j : ℕ) (d : Decoded) (frames : List (List ℤ)) (last : Bool) (bytes : List ℕ)
    (left : Left) : Type 0 where
  pub unit : Unit_of
  pub next : (rest : List Bool) → IsNext (whole j) d (bits_of bytes ++ rest) unit
  pub spelled : spelling_of (whole j) d unit ≡ bits_of bytes
  pub sync : in_force d.sync unit.outer.major ≡ Some (sync_of p)
  pub frames_are : frames_out j d unit ≡ map (presented_of p.mix (low_zeros p.depth) p.channels j) frames
  pub e : Going
  pub left_is : left ≡ Ok e
  pub follows : last ≡ false → Follows j e (after j d unit)

-- it is so for each next unit, where units were sent that a decoder follows
abbrev pub EachFollowed : Type 0
EachFollowed =
    (p : Profile) (before : List (List (List ℤ))) (units : List (List ℕ)) (e : Going) (j : ℕ) (d : Decoded)
    (frames : List (List ℤ)) (last : Bool) (x : List ℕ × Left) → HasSent p before units e → j < substreams_of p.channels
    → Follows j e d → AreNext p frames last → next_sent (Ok e) frames last ≡ Ok x
    → IsFollowed p j d frames last x.0 x.1

-- a unit that isn't the last adds to what was sent
abbrev pub EachAdded : Type 0
EachAdded =
    (p : Profile) (before : List (List (List ℤ))) (units : List (List ℕ)) (e : Going) (frames : List (List ℤ))
    (bytes : List ℕ) (next : Going) → HasSent p before units e → AreNext p frames false
    → next_sent (Ok e) frames false ≡ Ok (bytes, Ok next)
    → HasSent p (before ++ frames ∷ []) (units ++ bytes ∷ []) next
