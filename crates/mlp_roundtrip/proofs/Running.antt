-- What a run has written keeps what it has read.
use Rattle.std.proofs.Common.{◌≡◌, ℕ, ◌<◌, Bool, true, false, List, ◌++◌, length, take, Option, None, Some, Result, Ok, Err, inl, inr, ℤ, refl, sym, subst, ◌∙◌}
use Rattle.std.specs.Prelude.{IfSome}
use Rattle.std.specs.List.{flat_map}
use Rattle.std.proofs.lemmas.Bool.{cases_lt}
use Rattle.std.proofs.lemmas.List.Elements.{All-take}
use Rattle.mlp_io.specs.Limit.{limit}
use Rattle.mlp_syntax.specs.declared.major.Kind.{Kind}
use Rattle.mlp_syntax.specs.declared.refusal.ProfileFault.{ProfileFault}
use Rattle.mlp_stream.specs.declared.refusal.Refusal.TheVariants.{Fault, Pcm, NoRoom, NoPresentation, LowBits, NoRestart, NotThere}
use Rattle.mlp_stream.specs.declared.stop.Stop.{Stop}
use Rattle.mlp_stream.specs.declared.stop.Stop.TheVariants.{Refused, ReadFault, WriteFault, TooLong}
use Rattle.mlp_stream.specs.Sides.{Side}
use Rattle.mlp_answers.specs.declared.failure.Failure.{Failure}
use Rattle.mlp_answers.specs.declared.failure.Failure.TheVariants.{Usage, OutOfMemory, Stopped}
use Rattle.mlp_pcm.specs.declared.wave_format.Format.{Format}
use Rattle.mlp_pcm.specs.WaveFile.{bytes_of, IsWave}
use Rattle.mlp_pcm.proofs.WaveGrammar.{wave_from_says}
use Rattle.mlp_fold.specs.declared.profile.Mix.{Mix}
use Rattle.mlp_fold.specs.declared.profile.Profile.{Profile}
use Rattle.mlp_fold.specs.Profile.{checked}
use Rattle.mlp_encode.specs.Left.{going}
use Rattle.mlp_encode.specs.Sent.{sent}
use Rattle.mlp_encoding.specs.Pcm.{Ends, whole, empty, padded, cut_frame, cut_unit, unfinished}
use Rattle.mlp_encoding.specs.Encoded.{Encoded}
use Rattle.mlp_encoding.specs.Encodes.{Answer, EncodesBy}
use Rattle.mlp_encoding.specs.Wave.{profile_in, WaveEncoded, encoded, unfit, wrong, cut, waits}
use Rattle.mlp_unit.specs.Laws.{AreBytes}
use Rattle.mlp_tool.specs.declared.words.Command.{Command}
use Rattle.mlp_tool.specs.declared.words.Command.TheVariants as command
use Rattle.mlp_tool.specs.Lines.{status_of}
use Rattle.mlp_tool.specs.Words.{plain}
use Rattle.mlp_tool.specs.Run.{Does, Ran}
use Rattle.mlp_roundtrip.specs.Kept.{Keeps}
use Rattle.mlp_roundtrip.specs.Runs.{Gained, KeepsWave, RawKept, WaveKept}
use Rattle.mlp_encoded.proofs.Bytes.{back_bytes}
use Rattle.mlp_roundtrip.proofs.Whole.{ended_by}
use Rattle.mlp_roundtrip.proofs.Keeping.{all_kept}

-- status 0 is that of an end well
ended_well : (end : Result Unit Failure) → 0 ≡ status_of end → end ≡ Ok tt
ended_well (Ok x) e = refl
ended_well (Err Usage) e = absurd cc
ended_well (Err OutOfMemory) e = absurd cc
ended_well (Err (Stopped (Refused (Fault fault)))) e = absurd cc
ended_well (Err (Stopped (Refused (Pcm fault)))) e = absurd cc
ended_well (Err (Stopped (Refused (NoRoom unit)))) e = absurd cc
ended_well (Err (Stopped (Refused (NoPresentation have)))) e = absurd cc
ended_well (Err (Stopped (Refused (LowBits frame)))) e = absurd cc
ended_well (Err (Stopped (Refused (NoRestart unit)))) e = absurd cc
ended_well (Err (Stopped (Refused (NotThere units)))) e = absurd cc
ended_well (Err (Stopped ReadFault)) e = absurd cc
ended_well (Err (Stopped WriteFault)) e = absurd cc
ended_well (Err (Stopped TooLong)) e = absurd cc

-- what the command did, where it ended well
did : (words : List (List ℕ)) (input output errors : Side) (before now : ℕ) (c : Command) → Ran words input output errors before now 0 → plain words ≡ Some c → Does (Some c) input output (Ok tt)
did words input output errors before now c ran e =
    subst (λ (end : Result Unit Failure). Does (Some c) input output end) (ended_well ran.end ran.status_is) (subst (λ (o : Option Command). Does o input output ran.end) e ran.does)

-- ---- bytes that may go on don't end well

goes_on : (p : Profile) (n : ℕ) (seen : Bool) (rest : List ℕ) (more : List (List (List ℤ))) (last : Bool) (end : Result Unit Stop) → Ends p n false seen rest more last end → end ≡ Ok tt → ⊥
goes_on p n seen rest more last end (whole s u) e = absurd cc
goes_on p n seen rest more last end (empty s z r) e = absurd cc
goes_on p n seen rest more last end (padded f s z) e = absurd cc
goes_on p n seen rest more last end (cut_frame s l c w) e = absurd cc
goes_on p n seen rest more last end (cut_unit s k l m c w) e = absurd cc
goes_on p n seen rest more last end (unfinished s l m c) e = absurd cc

never_open : (p : Profile) (size : Option ℕ) (bytes output : List ℕ) (end : Result Unit Stop) → Encoded p size false bytes end output → end ≡ Ok tt → ⊥
never_open p size bytes output end e well =
    goes_on p _ _ e.pcm.rest e.pcm.more e.last e.pcm_end e.pcm.ends (ended_by e.pcm_end (sent e.last (Ok (going p)) e.frames).end (sym well ∙ e.end_is))

wave_open : (kind : Kind) (mix : Mix) (bytes output : List ℕ) (end : Result Unit Stop) → WaveEncoded kind mix false bytes end output → end ≡ Ok tt → ⊥
wave_open kind mix bytes output end (encoded format size rest says ok e) well = never_open (profile_in kind mix format) (Some size) rest output end e well
wave_open kind mix bytes output end (unfit format size rest fault says bad) well = absurd cc
wave_open kind mix bytes output end (wrong field says) well = absurd cc
wave_open kind mix bytes output end (cut field none says) well = absurd cc
wave_open kind mix bytes output end (waits field none says) well = absurd cc

-- the answer to an input that ends well is that to all of it
answered : {Made : Bool → List ℕ → Result Unit Stop → List ℕ → Type 0} → ((bytes output : List ℕ) → Made false bytes (Ok tt) output → ⊥) → (all output : List ℕ) → Answer Made all (Ok tt) output → Made true all (Ok tt) output
answered never all output a = elim (cases_lt limit (length all)) [ inl lt ↦ absurd (never (take limit all) output (a.past lt)) | inr le ↦ a.within le ]

-- ---- raw PCM

by_input : {A B : List ℕ → Type 0} (o : Option (List ℕ)) → ((all : List ℕ) → A all → B all) → IfSome o A → IfSome o B
by_input None f h = tt
by_input (Some all) f h = f all h

raw_by : (p : Profile) (r : Result Unit ProfileFault) (input output : Side) → checked p ≡ r → EncodesBy p r input output (Ok tt) → Gained input output (Keeps p)
raw_by p (Ok x) input output ok d = (
  d.put,
  d.writes,
  by_input input.before (λ all a small. all_kept p None all d.put ok small (answered (λ bytes output e. never_open p None bytes output (Ok tt) e refl) all d.put a)) d.wrote.1,
)
raw_by p (Err fault) input output ok d = absurd cc

pub raw_kept : RawKept
raw_kept words input output errors before now p ran e = raw_by p (checked p) input output refl (did words input output errors before now (command.EncodeRaw p) ran e)

-- ---- a WAVE file

-- the data of a file of bytes are bytes
rest_bytes : (all : List ℕ) (format : Format) (size : ℕ) (rest : List ℕ) → IsWave all format size rest → AreBytes all → AreBytes rest
rest_bytes all format size rest w small =
    let behind = back_bytes w.riff w.behind (subst AreBytes w.are small) in
    let riff = w.chunks in
    let fmt = back_bytes (flat_map bytes_of riff.chunks) (bytes_of riff.fmt ++ riff.behind) (subst AreBytes riff.are behind) in
    let later = riff.data_behind in
    let more = subst AreBytes later.are (back_bytes (bytes_of riff.fmt) riff.behind fmt) in
    back_bytes later.head rest (back_bytes (flat_map bytes_of later.chunks) (later.head ++ rest) more)

wave_well : (kind : Kind) (mix : Mix) (all output : List ℕ) (end : Result Unit Stop) → WaveEncoded kind mix true all end output → end ≡ Ok tt → AreBytes all → KeepsWave kind mix all output
wave_well kind mix all output end (encoded format size rest says ok e) well small =
    let header = wave_from_says all format size rest says in
    record {
      format = format;
      size = size;
      rest = rest;
      header = header;
      keeps = all_kept (profile_in kind mix format) (Some size) rest output ok (All-take (λ (b : ℕ). b < 256) size rest (rest_bytes all format size rest header small))
          (subst (λ (r : Result Unit Stop). Encoded (profile_in kind mix format) (Some size) true rest r output) well e);
    }
wave_well kind mix all output end (unfit format size rest fault says bad) well small = absurd cc
wave_well kind mix all output end (wrong field says) well small = absurd cc
wave_well kind mix all output end (cut field is says) well small = absurd cc
wave_well kind mix all output end (waits field is says) well small = absurd cc

pub wave_kept : WaveKept
wave_kept words input output errors before now kind mix ran e =
    let d = did words input output errors before now (command.EncodeWav kind mix) ran e in (
      d.put,
      d.writes,
      by_input input.before
          (λ all a small. wave_well kind mix all d.put (Ok tt) (answered (λ bytes output e. wave_open kind mix bytes output (Ok tt) e refl) all d.put a) refl small) d.wrote.1,
    )
