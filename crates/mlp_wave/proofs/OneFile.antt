-- An input has one file, or none.
use Rattle.std.proofs.Common.{◌≡◌, ℕ, ◌<◌, ◌≤◌, Bool, true, false, List, [], length, take, Result, Ok, Err, Some, inl, inr, refl, ap, ◌∙◌, arith}
use Rattle.std.proofs.lemmas.Bool.{cases_lt}
use Rattle.mlp_io.specs.Limit.{limit}
use Rattle.mlp_stream.specs.declared.stop.Stop.{Stop}
use Rattle.mlp_stream.specs.declared.stop.Stop.TheVariants.{TooLong}
use Rattle.mlp_walk.proofs.WalkLaws.{one_walk}
use Rattle.mlp_answers.specs.Answers.{AreUnits, Answers, finished, unfinished, breaks, lacks, refuses, waits, Answer}
use Rattle.mlp_pcm.specs.WaveHeader.{padded}
use Rattle.mlp_contents.specs.Units.{Unit_of, start, whole}
use Rattle.mlp_contents.proofs.FormatLaws.{whole_is}
use Rattle.mlp_sessions.specs.Playing.{playing}
use Rattle.mlp_sessions.proofs.PlayFollows.{decode_has_one}
use Rattle.mlp_wave.specs.WaveFile.{wave_file, most_of_samples, stated_channels, stated_rate}
use Rattle.mlp_wave.specs.Saved.{Saves, fits, too_many, stops, HasOneFile}

abbrev ended : Result Unit Stop
ended = Ok tt

abbrev stopped : Stop → Result Unit Stop
stopped stop = Err stop

ended_stopped : (stop : Stop) → ended ≡ stopped stop → ⊥
ended_stopped stop e = cc

module _ (k bits : ℕ) where
  -- what is decoded to the end is units

  units_at : (closed : Bool) (bytes output : List ℕ) (end : Result Unit Stop) → Answers (playing k bits) closed bytes end output → end ≡ Ok tt → (closed ≡ true) × ((us : List Unit_of) × AreUnits (playing k bits) bytes us)
  units_at closed bytes output end (finished us xs ys all units gives out e) h = (all, (us, units))
  units_at closed bytes output end (unfinished us r all units gives out) h = absurd cc
  units_at closed bytes output end (breaks us rest fault worked n fails d) h = absurd cc
  units_at closed bytes output end (lacks have d c) h = absurd cc
  units_at closed bytes output end (refuses us rest more u r worked taken out) h = absurd cc
  units_at closed bytes output end (waits us rest on worked opens) h = absurd cc

  not_open : false ≡ true → ⊥
  not_open e = cc

  units_in : (all samples : List ℕ) → Answer (playing k bits) all (Ok tt) samples → (us : List Unit_of) × AreUnits (playing k bits) all us
  units_in all samples a = elim (cases_lt limit (length all)) [
    | inl past ↦ absurd (not_open (units_at false (take limit all) samples (Ok tt) (a.past past) refl).0)
    | inr within ↦ (units_at true all samples (Ok tt) (a.within within) refl).1
  ]

  some : (all samples : List ℕ) (end : Result Unit Stop) → Answer (playing k bits) all end samples → (last : Result Unit Stop) × (output : List ℕ) × Saves k bits all last output
  some all samples (Err stop) a = (Err stop, [], stops stop samples a)
  some all samples (Ok x) a = elim (cases_lt most_of_samples (padded (length samples))) [
    | inl many ↦ (Err TooLong, [], too_many samples a many)
    | inr few ↦ (let u = units_in all samples a in (Ok tt, wave_file (stated_channels k u.0) (stated_rate k u.0) bits samples, fits u.0 samples u.1 a few))
  ]

  -- ---- no two

  module _ (all : List ℕ) where
    abbrev Same : Result Unit Stop → Result Unit Stop → List ℕ → List ℕ → Type 0
    Same e f xs ys = (e ≡ f) × (xs ≡ ys)

    same : (e f : Result Unit Stop) (xs ys : List ℕ) → Answer (playing k bits) all e xs → Answer (playing k bits) all f ys → Same e f xs ys
    same e f xs ys a b = (decode_has_one k bits all).one e f xs ys a b

    same_units : (us vs : List Unit_of) → AreUnits (playing k bits) all us → AreUnits (playing k bits) all vs → us ≡ vs
    same_units us vs a b = (one_walk (whole k) (whole_is k) (start k) (Some k) all).one_list us vs a b

    file_by : List Unit_of → List ℕ → List ℕ
    file_by us samples = wave_file (stated_channels k us) (stated_rate k us) bits samples

    not_both : (xs ys : List ℕ) → xs ≡ ys → padded (length xs) ≤ most_of_samples → most_of_samples < padded (length ys) → ⊥
    not_both xs ys e few many = omega (arith, ap (λ (zs : List ℕ). padded (length zs)) e)

    one : (e f : Result Unit Stop) (xs ys : List ℕ) → Saves k bits all e xs → Saves k bits all f ys → Same e f xs ys
    unfolding file_by
    one e f xs ys (fits us x units a few) (fits vs y vnits b less) =
        (refl, ap (λ (ws : List Unit_of). file_by ws x) (same_units us vs units vnits) ∙ ap (file_by vs) (same (Ok tt) (Ok tt) x y a b).1)
    one e f xs ys (fits us x units a few) (too_many y b many) = absurd (not_both x y (same (Ok tt) (Ok tt) x y a b).1 few many)
    one e f xs ys (fits us x units a few) (stops stop y b) = absurd (ended_stopped stop (same (Ok tt) (Err stop) x y a b).0)
    one e f xs ys (too_many x a many) (fits vs y vnits b few) = absurd (not_both y x (same (Ok tt) (Ok tt) y x b a).1 few many)
    one e f xs ys (too_many x a many) (too_many y b more) = (refl, refl)
    one e f xs ys (too_many x a many) (stops stop y b) = absurd (ended_stopped stop (same (Ok tt) (Err stop) x y a b).0)
    one e f xs ys (stops stop x a) (fits vs y vnits b few) = absurd (ended_stopped stop (same (Ok tt) (Err stop) y x b a).0)
    one e f xs ys (stops stop x a) (too_many y b many) = absurd (ended_stopped stop (same (Ok tt) (Err stop) y x b a).0)
    one e f xs ys (stops stop x a) (stops other y b) = ((same (Err stop) (Err other) x y a b).0, refl)

  pub has_one_file : (all : List ℕ) → HasOneFile k bits all
  has_one_file all =
      let answer = (decode_has_one k bits all).some in
      record { some = some all answer.1 answer.0 answer.2; one = one all }
