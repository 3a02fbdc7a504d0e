-- What decoding into memory and writing a file do together.
use Rattle.std.proofs.Common.{◌≡◌, ℕ, ◌<◌, ◌≤◌, List, [], length, take, drop, Result, Ok, Err, Option, Some, None, IfSome, refl, sym, ap, subst, ◌∙◌}
use Rattle.std.proofs.lemmas.List.{append-nil, take-append-drop}
use Rattle.std.specs.Io.KnownBytes.{Appends, IsAtEnd}
use Rattle.mlp_stream.specs.declared.stop.Stop.{Stop}
use Rattle.mlp_stream.specs.declared.stop.Stop.TheVariants.{Refused, ReadFault, WriteFault, TooLong}
use Rattle.mlp_stream.specs.Sides.{Side}
use Rattle.mlp_stream.specs.Pumped.{Pumped}
use Rattle.mlp_answers.specs.Answers.{AreUnits, Answer}
use Rattle.mlp_answers.specs.Works.{Wrote as WroteRaw}
use Rattle.mlp_pcm.specs.WaveHeader.{padded}
use Rattle.mlp_contents.specs.Units.{Left, Unit_of}
use Rattle.mlp_sessions.specs.Playing.{places, playing, Player, player, decode_step, decode_last}
use Rattle.mlp_unit.specs.AccessUnit.{stream_rate}
use Rattle.mlp_sessions.proofs.PlayFollows.{decode_works, decode_took, Played}
use Rattle.mlp_answers.specs.Failures.{failure_by, end_of}
use Rattle.mlp_wave.specs.WaveFile.{wave_file, most_of_samples, stated_channels, stated_rate, PutFile}
use Rattle.mlp_wave.specs.Saved.{Saves, fits, too_many, stops, Begun, Wrote, Saved}

pub nothing_put : (before behind : Option (List ℕ)) → behind ≡ before → Appends before behind []
nothing_put None behind e = tt
nothing_put (Some xs) behind e = subst (λ (o : Option (List ℕ)). Appends (Some xs) o []) (sym e) (sym (append-nil xs))

-- all that was written into memory is what it then holds
all_kept : (put kept : List ℕ) → Appends (Some []) (Some kept) put → put ≡ kept
all_kept put kept e = sym e

module _ (k bits : ℕ) where
  -- ---- decoding stops

  stops_before : (input : Option (List ℕ)) (stop : Stop) (samples : List ℕ) → IfSome input (λ all. Answer (playing k bits) all (Err stop) samples) → IfSome input (λ all. Saves k bits all (Err stop) [])
  stops_before None stop samples a = tt
  stops_before (Some all) stop samples a = stops stop samples a

  wrote_nothing : (input : Side) (taken samples : List ℕ) (stop : Stop) → WroteRaw (playing k bits) input taken samples (Err stop) → Wrote k bits input [] (Err (failure_by stop))
  wrote_nothing input taken samples (Refused r) w = (refl, stops_before input.before (Refused r) samples w)
  wrote_nothing input taken samples ReadFault w = refl
  wrote_nothing input taken samples WriteFault w = refl
  wrote_nothing input taken samples TooLong w = (refl, stops_before input.before TooLong samples w)

  pub saved_nothing : (t : Player) (input memory output : Side) (stop : Stop) → Pumped decode_step decode_last 0 (player k bits) t input memory (Err stop) → output.behind ≡ output.before → Saved k bits input output (Err (failure_by stop))
  saved_nothing t input memory output stop p same =
      let w = decode_works k bits t input memory (Err stop) p in
      record { taken = w.taken; put = []; few = w.few; reads = w.reads; writes = nothing_put output.before output.behind same; wrote = wrote_nothing input w.taken w.put stop w.wrote }

  -- ---- all was decoded

  abbrev file_by : Player → List ℕ → List ℕ
  file_by t samples = wave_file (places t.held.channels) (stream_rate t.held.left.sync) bits samples

  file_is : (t : Player) (us : List Unit_of) (samples : List ℕ) → Played k bits us t → file_by t samples ≡ wave_file (stated_channels k us) (stated_rate k us) bits samples
  file_is t us samples h =
      ap (λ (n : ℕ). wave_file (places n) (stream_rate t.held.left.sync) bits samples) h.channels
      ∙ ap (λ (left : Left). wave_file (stated_channels k us) (stream_rate left.sync) bits samples) h.left

  -- decode-raw gives these samples, and the session took all units
  record Decoded (t : Player) (input : Side) (samples : List ℕ) : Type 0 where
    ended : IsAtEnd input.behind
    answer : IfSome input.before (λ all. Answer (playing k bits) all (Ok tt) samples)
    took : IfSome input.before (λ all. (us : List Unit_of) × AreUnits (playing k bits) all us × Played k bits us t)

  saves : (t : Player) (input : Option (List ℕ)) (samples : List ℕ) → IfSome input (λ all. Answer (playing k bits) all (Ok tt) samples)
      → IfSome input (λ all. (us : List Unit_of) × AreUnits (playing k bits) all us × Played k bits us t) → padded (length samples) ≤ most_of_samples → IfSome input (λ all. Saves k bits all (Ok tt) (file_by t samples))
  saves t None samples answer took few = tt
  saves t (Some all) samples answer took few = subst (Saves k bits all (Ok tt)) (sym (file_is t took.0 samples took.2)) (fits took.0 samples took.1 answer few)

  begun : (input : Option (List ℕ)) (file : List ℕ) (n : ℕ) → IfSome input (λ all. Saves k bits all (Ok tt) file) → IfSome input (λ all. Begun k bits all (take n file))
  begun None file n s = tt
  begun (Some all) file n s = (file, s, (drop n file, sym (take-append-drop n file)))

  too_long : (input : Option (List ℕ)) (samples : List ℕ) → IfSome input (λ all. Answer (playing k bits) all (Ok tt) samples) → most_of_samples < padded (length samples) → IfSome input (λ all. Saves k bits all (Err TooLong) [])
  too_long None samples a many = tt
  too_long (Some all) samples a many = too_many samples a many

  -- what was put out, and by which end
  record Puts (input output : Side) (end : Result Unit Stop) : Type 0 where
    put : List ℕ
    writes : Appends output.before output.behind put
    wrote : Wrote k bits input put (end_of end)

  puts : (t : Player) (input output : Side) (samples : List ℕ) → Decoded t input samples → (r : Result Unit Stop) → PutFile samples (file_by t samples) output r → Puts input output r
  puts t input output samples d (Ok x) p = record { put = file_by t samples; writes = p.1; wrote = (d.ended, saves t input.before samples d.answer d.took p.0) }
  puts t input output samples d (Err (Refused r)) p = absurd p
  puts t input output samples d (Err ReadFault) p = absurd p
  puts t input output samples d (Err WriteFault) p = record {
    put = take p.1.1.0 (file_by t samples);
    writes = p.1.1.1;
    wrote = (d.ended, begun input.before (file_by t samples) p.1.1.0 (saves t input.before samples d.answer d.took p.0));
  }
  puts t input output samples d (Err TooLong) p = record {
    put = [];
    writes = nothing_put output.before output.behind p.1;
    wrote = (refl, too_long input.before samples d.answer p.0);
  }

  pub saved_file : (t : Player) (input output : Side) (samples bytes : List ℕ) (channels rate : ℕ) (r : Result Unit Stop)
      → Pumped decode_step decode_last 0 (player k bits) t input (record { before = Some []; behind = Some samples }) (Ok tt)
      → channels ≡ places t.held.channels → rate ≡ stream_rate t.held.left.sync → bytes ≡ samples → PutFile bytes (wave_file channels rate bits bytes) output r → Saved k bits input output (end_of r)
  saved_file t input output samples bytes channels rate r p c e b f =
      let memory : Side = record { before = Some []; behind = Some samples } in
      let w = decode_works k bits t input memory (Ok tt) p in
      let kept = all_kept w.put samples w.writes in
      let answer = subst (λ (xs : List ℕ). IfSome input.before (λ all. Answer (playing k bits) all (Ok tt) xs)) kept w.wrote.1 in
      let same = ap (λ (n : ℕ). wave_file n rate bits samples) c ∙ ap (λ (n : ℕ). wave_file (places t.held.channels) n bits samples) e in
      let held = subst (λ (xs : List ℕ). PutFile xs (wave_file channels rate bits xs) output r) b f in
      let file = subst (λ (xs : List ℕ). PutFile samples xs output r) same held in
      let q = puts t input output samples (record { ended = w.wrote.0; answer = answer; took = decode_took k bits t input memory p }) r file in
      record { taken = w.taken; put = q.put; few = w.few; reads = w.reads; writes = q.writes; wrote = q.wrote }
