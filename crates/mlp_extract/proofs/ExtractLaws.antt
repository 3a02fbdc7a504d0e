-- What comes out of a stream, or of bytes that break.
use Rattle.std.proofs.Common.{◌≡◌, ℕ, ◌≤◌, Bool, List, [], ◌∷◌, ◌++◌, length, Result, Ok, refl, sym, ap, ◌∙◌, arith}
use Rattle.std.proofs.lemmas.List.{append-nil}
use Rattle.std.proofs.lemmas.List.Concat.{flat_map-cons}
use Rattle.mlp_io.specs.Limit.{limit}
use Rattle.mlp_bits.specs.Bits.{bits_of}
use Rattle.mlp_layout.specs.Streams.{Stream}
use Rattle.mlp_layout.proofs.StreamLaws.{begins_none}
use Rattle.mlp_stream.specs.declared.refusal.Refusal.{Refusal}
use Rattle.mlp_stream.specs.declared.stop.Stop.{Stop}
use Rattle.mlp_answers.specs.Answers.{Gives, Worked, HasTaken, Answers, finished, unfinished, breaks, lacks, refuses, waits, Answer, AreUnits}
use Rattle.mlp_contents.specs.Units.{Unit_of, start, whole}
use Rattle.mlp_contents.proofs.FormatLaws.{whole_is}
use Rattle.mlp_extract.specs.Extract.{extracted_bytes, extract}
use Rattle.mlp_extract.specs.Extracting.{extracting}
use Rattle.mlp_extract.specs.Laws.{IsExtraction}

module _ (k : ℕ) where
  abbrev bytes_at : Unit_of → List ℕ
  bytes_at u = extracted_bytes k u.outer

  ok_of : List ℕ → Result (List ℕ) Refusal
  ok_of xs = Ok xs

  ok_is : (xs ys : List ℕ) → ok_of xs ≡ ok_of ys → xs ≡ ys
  unfolding ok_of
  ok_is xs ys e = cc

  -- ---- units give their extraction, and nothing else

  gives : (before us : List Unit_of) → Gives (extracting k) before us (extract k us)
  unfolding Gives
  gives before [] = refl
  gives before (u ∷ us) = (bytes_at u, extract k us, refl, gives (before ++ u ∷ []) us, flat_map-cons bytes_at u us)

  given_is : (before us : List Unit_of) (output : List ℕ) → Gives (extracting k) before us output → output ≡ extract k us
  unfolding Gives ok_of
  given_is before [] output g = g
  given_is before (u ∷ us) output (xs, ys, out, later, joined) =
      let here : xs ≡ bytes_at u = ok_is xs (bytes_at u) (sym out) in
      let others : ys ≡ extract k us = given_is (before ++ u ∷ []) us ys later in
      joined ∙ ap (λ (zs : List ℕ). zs ++ ys) here ∙ ap (λ (zs : List ℕ). bytes_at u ++ zs) others ∙ sym (flat_map-cons bytes_at u us)

  pub stream_extracted : (bytes : List ℕ) (us : List Unit_of) → length bytes ≤ limit → Stream (whole k) (start k) k (bits_of bytes) us → Answer (extracting k) bytes (Ok tt) (extract k us)
  stream_extracted bytes us few stream = record {
    within = λ le. finished us (extract k us) [] refl stream (gives [] us) refl (sym (append-nil (extract k us)));
    past = λ lt. absurd (omega (arith, few, lt));
  }

  -- ---- whatever the end

  all_taken : (bytes : List ℕ) (us : List Unit_of) → AreUnits (extracting k) bytes us → HasTaken (extracting k) bytes us []
  unfolding bits_of
  all_taken bytes us stream = record { begins = stream.units.begins; there = λ some. stream.exists }

  worked : (bytes : List ℕ) (us : List Unit_of) (rest output : List ℕ) → Worked (extracting k) bytes us rest output → IsExtraction k bytes output
  worked bytes us rest output w = record { units = us; rest = rest; taken = w.taken; output_is = given_is [] us output w.gives }

  pub ended_extracted : (ended : Bool) (bytes : List ℕ) (end : Result Unit Stop) (output : List ℕ) → Answers (extracting k) ended bytes end output → IsExtraction k bytes output
  unfolding ok_of
  ended_extracted ended bytes end output (finished us xs ys over are given last joined) = record {
    units = us;
    rest = [];
    taken = all_taken bytes us are;
    output_is = joined ∙ ap (λ (zs : List ℕ). xs ++ zs) (ok_is ys [] last) ∙ append-nil xs ∙ given_is [] us xs given;
  }
  ended_extracted ended bytes end output (unfinished us r over are given last) = record { units = us; rest = []; taken = all_taken bytes us are; output_is = given_is [] us output given }
  ended_extracted ended bytes end output (breaks us rest fault w number fail decided) = worked bytes us rest output w
  ended_extracted ended bytes end output (lacks have lack decided) = record {
    units = [];
    rest = bytes;
    taken = record { begins = begins_none (whole k) (whole_is k) (start k) (bits_of bytes); there = λ some. absurd (some refl) };
    output_is = refl;
  }
  ended_extracted ended bytes end output (refuses us rest more u r w on out) = worked bytes us rest output w
  ended_extracted ended bytes end output (waits us rest on w opens) = worked bytes us rest output w
