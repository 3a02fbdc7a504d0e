-- What copying an input and telling its pieces do together.
use Rattle.std.proofs.Common.{◌≡◌, ℕ, ◌<◌, ◌≤◌, List, [], ◌++◌, length, take, drop, Result, Ok, Err, Option, Some, None, IfSome, refl, sym, ap, subst, ◌∙◌, arith}
use Rattle.std.proofs.lemmas.List.{take-append-drop}
use Rattle.std.specs.Io.KnownBytes.{Appends}
use Rattle.mlp_io.specs.Limit.{limit}
use Rattle.mlp_stream.specs.declared.stop.Stop.{Stop}
use Rattle.mlp_stream.specs.declared.stop.Stop.TheVariants.{Refused, ReadFault, WriteFault, TooLong}
use Rattle.mlp_stream.specs.Sides.{Side}
use Rattle.mlp_stream.specs.Gathers.{IsWriteStop}
use Rattle.mlp_stream.specs.Pumped.{Pumped, Says}
use Rattle.mlp_answers.specs.declared.failure.Failure.{Failure}
use Rattle.mlp_answers.specs.declared.failure.Failure.TheVariants.{Usage, OutOfMemory, Stopped}
use Rattle.mlp_answers.specs.Failures.{failure_by}
use Rattle.mlp_recover.specs.Spans.{AreSpans}
use Rattle.mlp_recover.specs.declared.span.Span.{Span}
use Rattle.mlp_wave.proofs.SavedLaws.{nothing_put}
use Rattle.mlp_editing.specs.Copying.{copy_step, copy_last}
use Rattle.mlp_editing.specs.Told.{all_told, Puts, AreSpansOf}
use Rattle.mlp_editing.specs.Mended.{IsMended, Tells, Wrote, Mended}
use Rattle.mlp_editing.proofs.Copies.{copied_all, copied_long, copied_refused}

-- all that was copied is held
kept_is : (put kept : List ℕ) → Appends (Some []) (Some kept) put → kept ≡ put
kept_is put kept e = e

module _ (k : ℕ) where
  -- ---- copying stops

  stops_by : (input copy : Side) (taken put : List ℕ) (t : ℕ) (stop : Stop) → Says copy_step copy_last 0 0 input taken put t (Err stop) → Wrote k input [] (Err (failure_by stop))
  stops_by input copy taken put t (Refused r) w = (refl, copied_refused input.before r put w)
  stops_by input copy taken put t ReadFault w = refl
  stops_by input copy taken put t WriteFault w = refl
  stops_by input copy taken put t TooLong w = (refl, copied_long input.before put w)

  pub mended_stops : (t : ℕ) (input copy output : Side) (stop : Stop) → Pumped copy_step copy_last 0 0 t input copy (Err stop) → output.behind ≡ output.before → Mended k input output (Err (failure_by stop))
  mended_stops t input copy output stop p same = record {
    taken = p.taken;
    put = [];
    few = omega (arith, p.few);
    reads = p.reads;
    writes = nothing_put output.before output.behind same;
    wrote = stops_by input copy p.taken p.put t stop p.says;
  }

  -- ---- all is copied

  module _ (t : ℕ) (input output : Side) (kept bytes : List ℕ) (p : Pumped copy_step copy_last 0 0 t input (record { before = Some []; behind = Some kept }) (Ok tt)) (same : bytes ≡ kept) where
    all_is : IfSome input.before (λ all. (length all ≤ limit) × (bytes ≡ all))
    all_is = by_input input.before (copied_all input.before p.put p.says.1)
      where
        by_input : (o : Option (List ℕ)) → IfSome o (λ all. (length all ≤ limit) × (p.put ≡ all)) → IfSome o (λ all. (length all ≤ limit) × (bytes ≡ all))
        by_input None h = tt
        by_input (Some all) h = (h.0, same ∙ kept_is p.put kept p.writes ∙ h.1)

    never_long : limit < length bytes → (o : Option (List ℕ)) → IfSome o (λ all. (length all ≤ limit) × (bytes ≡ all)) → IfSome o (λ all. limit < length all)
    never_long lt None h = tt
    never_long lt (Some all) h = omega (arith, lt, ap length h.1)

    -- more than the limit came where the input doesn't tell its bytes
    pub mended_long : limit < length bytes → output.behind ≡ output.before → Mended k input output (Err (Stopped TooLong))
    mended_long lt none = record {
      taken = p.taken;
      put = [];
      few = omega (arith, p.few);
      reads = p.reads;
      writes = nothing_put output.before output.behind none;
      wrote = (refl, never_long lt input.before all_is);
    }

    of_all : (text : List ℕ) → IsMended k bytes text → (o : Option (List ℕ)) → IfSome o (λ all. (length all ≤ limit) × (bytes ≡ all)) → IfSome o (λ all. IsMended k all text)
    of_all text m None h = tt
    of_all text m (Some all) h = subst (λ (xs : List ℕ). IsMended k xs text) h.1 m

    begun : (text : List ℕ) (n : ℕ) → (o : Option (List ℕ)) → IfSome o (λ all. IsMended k all text) → IfSome o (λ all. (whole : List ℕ) × IsMended k all whole × ((rest : List ℕ) × (whole ≡ take n text ++ rest)))
    begun text n None h = tt
    begun text n (Some all) h = (text, h, (drop n text, sym (take-append-drop n text)))

    stopped_by : (stop : Stop) (text : List ℕ) → IsMended k bytes text → IsWriteStop output text stop → Mended k input output (Err (Stopped stop))
    stopped_by (Refused r) text m w = absurd (let never = w.0 in cc)
    stopped_by ReadFault text m w = absurd (let never = w.0 in cc)
    stopped_by WriteFault text m w = record {
      taken = p.taken;
      put = take w.1.0 text;
      few = omega (arith, p.few);
      reads = p.reads;
      writes = w.1.1;
      wrote = (p.says.0, begun text w.1.0 input.before (of_all text m input.before all_is));
    }
    stopped_by TooLong text m w = absurd (let never = w.0 in cc)

    pub mended_tells : (end : Result Unit Failure) → Tells k bytes output end → Mended k input output end
    mended_tells (Ok x) h = record {
      taken = p.taken;
      put = h.0;
      few = omega (arith, p.few);
      reads = p.reads;
      writes = h.2;
      wrote = (p.says.0, of_all h.0 h.1 input.before all_is);
    }
    mended_tells (Err Usage) h = absurd h
    mended_tells (Err OutOfMemory) h = record {
      taken = p.taken;
      put = [];
      few = omega (arith, p.few);
      reads = p.reads;
      writes = nothing_put output.before output.behind h;
      wrote = refl;
    }
    mended_tells (Err (Stopped stop)) h = stopped_by stop h.0 h.1 h.2

-- ---- telling

pub spans_of : (k : ℕ) (bytes : List ℕ) (spans : List Span) → (a : AreSpans k bytes spans) → AreSpansOf k bytes spans a.pieces
spans_of k bytes spans a = (a.recovered.right, a.spans_are)

text_of : (k : ℕ) (bytes : List ℕ) (spans : List Span) → length bytes ≤ limit → (a : AreSpans k bytes spans) → IsMended k bytes (all_told k a.pieces)
text_of k bytes spans few a = record { few = few; pieces = a.pieces; recovered = a.recovered; text_is = refl }

abbrev end_of : Result Unit Stop → Result Unit Failure
end_of (Ok x) = Ok x
end_of (Err stop) = Err (Stopped stop)

pub tells : (k : ℕ) (bytes : List ℕ) (spans : List Span) (output : Side) (r : Result Unit Stop) → length bytes ≤ limit → (a : AreSpans k bytes spans) → Puts output (all_told k a.pieces) r → Tells k bytes output (end_of r)
tells k bytes spans output (Ok x) few a w = (all_told k a.pieces, text_of k bytes spans few a, w)
tells k bytes spans output (Err stop) few a w = (all_told k a.pieces, text_of k bytes spans few a, w)
