-- What a group's text is.
use Rattle.std.proofs.Common.{◌≡◌, ℕ, Bool, true, false, List, [], ◌∷◌, ◌++◌, Some, None, Result, Ok, Err, append_assoc, refl, sym, ap, ◌∙◌}
use Rattle.std.specs.Prelude.{IsErrAnd}
use Rattle.std.specs.List.{flat_map}
use Rattle.std.proofs.lemmas.List.{append-nil}
use Rattle.mlp_layout.specs.Layout.{Layout, seen, part, made}
use Rattle.mlp_layout.specs.Combined.{flag, chosen, present, group}
use Rattle.mlp_layout.specs.Writing.{Writes, field_bits, absent_text}
use Rattle.mlp_layout.proofs.WritingLaws.{writes_as, then_writes, stops_writing}
use Rattle.mlp_layout.specs.Allowed.{Allowed}

none_text : {A : Type 0} (there : Bool) (l : Layout A) → absent_text there ≡ (group there l).spelling None
unfolding group chosen part present made
none_text true l = sym (append-nil (flag.spelling false))
none_text false l = refl

pub some_fits : {A : Type 0} (there : Bool) (l : Layout A) (x : A) → (group there l).Fits (Some x) → l.Fits x
unfolding group chosen part present seen made
some_fits true l x h = h.1.0
some_fits false l x h = absurd (let e = h in cc)

some_text : {A : Type 0} (there : Bool) (l : Layout A) (x : A) → (group there l).Fits (Some x) → flag.spelling true ++ l.spelling x ≡ (group there l).spelling (Some x)
unfolding group chosen part present seen made
some_text true l x h = refl
some_text false l x h = absurd (let e = h in cc)

module _ {A E : Type 0} (there : Bool) (l : Layout A) {old new : List Bool} {r : Result (Unit {0}) E} where
  pub writes_none : Writes old new r (absent_text there) → Writes old new r ((group there l).spelling None)
  writes_none w = writes_as (none_text there l) w

  pub writes_some : (x : A) (middle : List Bool) {F : Type 0} {u : Unit {0}} → (group there l).Fits (Some x)
      → Writes {E = F} old middle (Ok u) (flag.spelling true) → Writes middle new r (l.spelling x) → Writes old new r ((group there l).spelling (Some x))
  writes_some x middle h a b = writes_as (some_text there l x h) (then_writes a b)

pub flag_stops : {A E F : Type 0} (Q : E → Type 0) (there : Bool) (l : Layout A) (x : A) {old new : List Bool} {e : F} (r : Result (Unit {0}) E)
    → (group there l).Fits (Some x) → IsErrAnd r Q → Writes {E = F} old new (Err e) (flag.spelling true) → Writes old new r ((group there l).spelling (Some x))
flag_stops Q there l x r h is a = writes_as (some_text there l x h) (stops_writing Q (l.spelling x) r is a)

-- ---- fields and what follows them

-- fields of numbers, and a text behind them
abbrev pub fields : List (ℕ × ℕ) → List Bool → List Bool
fields [] later = later
fields (f ∷ fs) later = field_bits f ++ fields fs later

fields_text : (fs : List (ℕ × ℕ)) (later : List Bool) → flat_map field_bits fs ++ later ≡ fields fs later
fields_text [] later = refl
fields_text (f ∷ fs) later = append_assoc (field_bits f) (flat_map field_bits fs) later ∙ ap (λ (t : List Bool). field_bits f ++ t) (fields_text fs later)

pub fields_only : {E : Type 0} (fs : List (ℕ × ℕ)) {old new : List Bool} {r : Result (Unit {0}) E} → Writes old new r (flat_map field_bits fs) → Writes old new r (fields fs [])
fields_only fs a = writes_as (sym (append-nil (flat_map field_bits fs)) ∙ fields_text fs []) a

pub fields_stop : {E F : Type 0} (Q : E → Type 0) (fs : List (ℕ × ℕ)) (later : List Bool) {old new : List Bool} {e : F} (r : Result (Unit {0}) E)
    → IsErrAnd r Q → Writes {E = F} old new (Err e) (flat_map field_bits fs) → Writes old new r (fields fs later)
fields_stop Q fs later r is a = writes_as (fields_text fs later) (stops_writing Q later r is a)

pub fields_then : {E F : Type 0} (fs : List (ℕ × ℕ)) {old middle new later : List Bool} {u : Unit {0}} {r : Result (Unit {0}) E}
    → Writes {E = F} old middle (Ok u) (flat_map field_bits fs) → Writes middle new r later → Writes old new r (fields fs later)
fields_then fs {later = later} a b = writes_as (fields_text fs later) (then_writes a b)

-- nothing follows
pub ends_with : {E : Type 0} {old new text : List Bool} {r : Result (Unit {0}) E} → Writes old new r text → Writes old new r (text ++ [])
ends_with {text = text} a = writes_as (sym (append-nil text)) a

pub some_allowed : {A : Type 0} (there : Bool) (l : Layout A) (x : A) → Allowed (group there l) (Some x) → Allowed l x
unfolding group chosen part present seen made
some_allowed true l x a = record { fits = a.fits.1.0; meets = a.meets.1 }
some_allowed false l x a = absurd (let e = a.fits in cc)
