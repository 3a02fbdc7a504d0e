-- That each unit has a place in time, and what it means that one has none.
use Rattle.std.specs.Prelude.{◌≡◌, ◌⊎◌, ℕ, ◌+◌, ◌==◌, ◌&&◌, Bool, All, List, [], ◌∷◌, ◌++◌, length, map, take, slice_index_or, Ok, Err, IsOk, true, false, ℤ}
use Rattle.mlp_syntax.specs.declared.refusal.NoRoom.{NoRoom}
use Rattle.mlp_fifo.specs.Placed.{LacksRoom}
use Rattle.mlp_fold.specs.declared.profile.Profile.{Profile}
use Rattle.mlp_fold.specs.Profile.{checked}
use Rattle.mlp_encode.specs.Left.{Going, going}
use Rattle.mlp_encode.specs.Unit.{AreNext, unit_sent, body_of, body_size}
use Rattle.mlp_encode.specs.Sent.{Stream, sent}
use Rattle.mlp_lossless.specs.Streams.{AreUnits}

-- the rates of one access unit in 40 sample periods
abbrev pub IsSingle : ℕ → Type 0
IsSingle rate = (rate ≡ 44100) ⊎ (rate ≡ 48000)

-- at these rates each unit of a whole stream has a place
abbrev pub WholeHasRoom : Type 0
WholeHasRoom =
    (p : Profile) (frames : List (List (List ℤ))) → checked p ≡ Ok tt → IsSingle p.rate →
    AreUnits p frames → IsOk (sent true (Ok (going p)) frames).end

-- .. and each unit of one that goes on
abbrev pub BegunHasRoom : Type 0
BegunHasRoom =
    (p : Profile) (frames : List (List (List ℤ))) → checked p ≡ Ok tt → IsSingle p.rate →
    All (λ unit. AreNext p unit false) frames → IsOk (sent false (Ok (going p)) frames).end

-- a stream that so far has these units and leaves this
abbrev pub so_far : List (List ℕ) → Going → Stream
so_far units left = record { units = units; end = Ok (Ok left) }

-- .. and one that is refused behind these units
abbrev pub refused : List (List ℕ) → NoRoom → Stream
refused units e = record { units = units; end = Err e }

module _ (p : Profile) (ended : Bool) (frames : List (List (List ℤ))) where
  -- Of the units of these frames, the last of which is the stream's where `ended`, so many were sent, and the next one
  -- has no place: the lengths of those sent have a schedule, and with the length of the next one they have none.
  pub record Stops (units : List (List ℕ)) (e : NoRoom) : Type 0 where
    -- what the units before it leave
    pub left : Going
    pub before : sent false (Ok (going p)) (take (length units) frames) ≡ so_far units left
    pub unit_is : e.unit ≡ length units
    pub bytes_are :
        let unit = slice_index_or frames (length units) [] in
        let last = ended && (length frames == length units + 1) in
        e.bytes ≡ body_size (body_of left (unit_sent left unit last))
    pub lacks : LacksRoom p.kind p.rate (map (λ unit. length unit) units ++ e.bytes ∷ []) e

-- a whole stream that is refused
abbrev pub WholeStops : Type 0
WholeStops =
    (p : Profile) (frames : List (List (List ℤ))) (units : List (List ℕ)) (e : NoRoom) →
    checked p ≡ Ok tt → AreUnits p frames →
    sent true (Ok (going p)) frames ≡ refused units e → Stops p true frames units e

-- .. and one that goes on
abbrev pub BegunStops : Type 0
BegunStops =
    (p : Profile) (frames : List (List (List ℤ))) (units : List (List ℕ)) (e : NoRoom) →
    checked p ≡ Ok tt → All (λ unit. AreNext p unit false) frames →
    sent false (Ok (going p)) frames ≡ refused units e → Stops p false frames units e
