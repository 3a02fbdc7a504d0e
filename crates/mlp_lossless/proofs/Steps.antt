-- A unit that is sent is the next one of a decoder that follows, gives back its frames, and leaves what is followed on.
use Rattle.std.proofs.Common.{◌≡◌, ℕ, suc, ◌+◌, ◌-◌, ◌*◌, ◌/◌, ◌%◌, ◌^◌, ◌<◌, ◌≤◌, ℤ, Bool, true, false, List, [], ◌∷◌, ◌++◌, map, length, take, get_or, Option, Some, None, Ok, refl, sym, ap, ◌∙◌, subst, arith}
use Rattle.std.specs.Prelude.{All, is_some, IsTrue, not, ◌==◌, ◌||◌, if◌then◌else◌}
use Rattle.std.specs.List.{list_any}
use Rattle.std.proofs.Math.Seq.{take-append_seam}
use Rattle.std.proofs.lemmas.Bool.{eqb-true, ne_eqb}
use Rattle.std.proofs.lemmas.List.{length-append, length-map, length-take-le, get_or-take}
use Rattle.std.proofs.lemmas.List.FromFn.{get_or-map-range_with_len}
use Rattle.std.proofs.lemmas.List.Elements.{All-nil, All-cons}
use Rattle.mlp_syntax.specs.declared.major.Kind.{Kind}
use Rattle.mlp_syntax.specs.declared.major.MajorSync.{MajorSync}
use Rattle.mlp_syntax.specs.declared.segment.Segment.{Segment}
use Rattle.mlp_bits.specs.Bits.{bits_of}
use Rattle.mlp_layout.specs.Layout.{Found, tested}
use Rattle.mlp_layout.specs.Contents.{FoundIn, segments}
use Rattle.mlp_layout.specs.Streams.{IsNext, spelling_of}
use Rattle.mlp_layout.specs.Allowed.{Allowed}
use Rattle.mlp_params.specs.declared.state.State.{State}
use Rattle.mlp_predict.specs.Prediction.{Past}
use Rattle.mlp_substream.specs.declared.known.Place.{Place}
use Rattle.mlp_substream.specs.Blocks.{force_after}
use Rattle.mlp_substream.specs.Segment.{segment, unknown}
use Rattle.mlp_unit.specs.Directory.{directory_size}
use Rattle.mlp_unit.specs.AccessUnit.{AccessUnit, access_unit, in_force, stream_kind, major_size}
use Rattle.mlp_unit.specs.Written.{Writable, written_unit, unit_text}
use Rattle.mlp_unit.proofs.UnitLaws.{access_unit_size}
use Rattle.mlp_unit.proofs.UnitRules.{fits_text}
use Rattle.mlp_channels.specs.Channels.{Coded, nothing_coded, coded_after}
use Rattle.mlp_channels.specs.Playing.{past_of_channel}
use Rattle.mlp_output.specs.Output.{folded, dropped, check_of, placed_each}
use Rattle.mlp_contents.specs.Frames.{channel, heard_in}
use Rattle.mlp_contents.specs.Units.{Unit_of, frames_in_unit, coded_at, coded_each, portion, top_of, no_segment, heard_of, placed_by, frames_out, after, whole}
use Rattle.mlp_contents.specs.Units.{Left as Decoded, place_of as decoder_place}
use Rattle.mlp_contents.proofs.ChannelLists.{length-each}
use Rattle.mlp_fifo.specs.LeftFifo.{LeftFifo}
use Rattle.mlp_fifo.specs.Pace.{unit_of, single_most}
use Rattle.mlp_fold.specs.declared.profile.Profile.{Profile}
use Rattle.mlp_fold.specs.declared.coding.CodedFrame.{CodedFrame}
use Rattle.mlp_fold.specs.Profile.{checked}
use Rattle.mlp_fold.specs.Mix.{channels_of, presented_of}
use Rattle.mlp_fold.specs.Substreams.{substreams_of, first_channel, last_channel}
use Rattle.mlp_encode.specs.Numbers.{has_sync, low_zeros}
use Rattle.mlp_encode.specs.Sync.{sync_of}
use Rattle.mlp_encode.specs.Left.{Going}
use Rattle.mlp_encode.specs.Unit.{AreNext, filled, coded, terminator_of, output_timing, restart_in, SentUnit, unit_sent, place_of, segments_bytes, entry_at, entries_from, major_of, body_of, body_size, unit_bytes, check_behind, behind}
use Rattle.mlp_samples.proofs.Leavings.{coded_each-at}
use Rattle.mlp_samples.proofs.WholeBytes.{bits_again}
use Rattle.mlp_lossless.specs.Following.{Follows}
use Rattle.mlp_lossless.specs.Timings.{output_timings}
use Rattle.mlp_lossless.specs.Chosen.{IsChosenSegment, IsChosen}
use Rattle.mlp_encode.proofs.SyncAllowed.{Passes, passes}
use Rattle.mlp_encode.proofs.SentStarts.{mixed_there}
use Rattle.mlp_encode.proofs.FramesFilled.{filled_samples, filled_count}
use Rattle.mlp_lossless.proofs.Syncs.{sync_kind, sync_frames}
use Rattle.mlp_lossless.proofs.Shapes.{IsPresentation, presentation, kept, front_kept, whole_unit}
use Rattle.mlp_lossless.proofs.Units.{AllCan, Alongside, AllPlayed, IsPlayed, played_chosen, Plays, plays, all_back, all_stand, played_at}
use Rattle.mlp_lossless.proofs.Bodies.{HasBytes, has_bytes, all_bits}
use Rattle.mlp_lossless.proofs.Parts.{bytes_count}
use Rattle.mlp_lossless.proofs.Outer.{outer_allowed}
use Rattle.mlp_lossless.proofs.Found.{AllStand, found_all}
use Rattle.mlp_encode.proofs.ChannelChecks.{checks_same}
use Rattle.mlp_lossless.proofs.Heard.{all_placed}
use Rattle.mlp_lossless.proofs.Playing.{heard_unit}
use Rattle.mlp_lossless.proofs.Told.{all_tell}

-- ---- what is owed of the unit that is sent: its segments can be sent, and its parts can be written

pub record CanSendUnit (e : Going) (frames : List (List ℤ)) (last : Bool) : Type 0 where
  pub profile : checked e.profile ≡ Ok tt
  pub frames_are : AreNext e.profile frames last
  pub count : length e.force ≡ substreams_of e.profile.channels
  pub segments : AllCan e.profile e.units e.checks (coded e.profile (filled e.profile frames)) (terminator_of e.profile (length frames) last) 0 e.force e.pasts
  pub writable : Writable (major_of e) (body_of e (unit_sent e frames last)).entries (body_of e (unit_sent e frames last)).bytes
  pub small : body_size (body_of e (unit_sent e frames last)) ≤ 8190
  pub even : 2 * (body_size (body_of e (unit_sent e frames last)) / 2) ≡ body_size (body_of e (unit_sent e frames last))
  pub single : unit_of e.profile.rate ≡ 40 → body_size (body_of e (unit_sent e frames last)) ≤ single_most e.profile.kind

is_there : {A : Type 0} (t : Bool) (x : A) → is_some (if t then Some x else None) ≡ t
is_there true x = refl
is_there false x = refl

entries_plain : (sync : Bool) (start : ℕ) (bs : List (List ℕ)) → All (λ e. e ≡ entry_at sync e.end) (entries_from sync start bs)
entries_plain sync start [] = All-nil (λ e. e ≡ entry_at sync e.end)
entries_plain sync start (b ∷ bs) =
    All-cons (λ e. e ≡ entry_at sync e.end) (entry_at sync (start + length b / 2)) (entries_from sync (start + length b / 2) bs) refl (entries_plain sync (start + length b / 2) bs)

-- ---- lists of substreams

module _ (p : Profile) (n : ℕ) (checks : List ℕ) (cs : List CodedFrame) (t : Option ℕ) where
  along_from : (i : ℕ) (xs : List Coded) (fs : List (Option State)) (pasts : List Past) → length xs ≤ length fs → ((k : ℕ) → k < length xs → (get_or xs k nothing_coded).force ≡ get_or fs k None)
      → ((k c : ℕ) → k < length xs → first_channel (i + k) ≤ c → c ≤ last_channel (i + k) → past_of_channel (get_or xs k nothing_coded).pasts c ≡ past_of_channel pasts c) → Alongside p n checks cs t i xs fs pasts
  unfolding Alongside
  along_from i [] fs pasts le force same = tt
  along_from i (x ∷ xs) [] pasts le force same = absurd (omega arith)
  along_from i (x ∷ xs) (f ∷ fs) pasts le force same =
      let z : i + 0 ≡ i = omega arith in (
        force 0 (omega arith),
        subst (λ (m : ℕ). (c : ℕ) → first_channel m ≤ c → c ≤ last_channel m → past_of_channel x.pasts c ≡ past_of_channel pasts c) z (λ c from to. same 0 c (omega arith) from to),
        along_from (suc i) xs fs pasts (omega arith) (λ k lt. force (suc k) (omega arith))
            (λ k c lt. let e : i + suc k ≡ suc i + k = omega arith in
            subst (λ (m : ℕ). first_channel m ≤ c → c ≤ last_channel m → past_of_channel (get_or xs k nothing_coded).pasts c ≡ past_of_channel pasts c) e (same (suc k) c (omega arith))),
      )

  none_ended : (last check : ℕ) (final : List Past) (i : ℕ) (xs : List Coded) (ss : List Segment) (fs : List (Option State)) → t ≡ None → AllPlayed p n checks cs t last check final i xs ss fs
      → list_any (λ s. is_some s.terminator) ss ≡ false
  unfolding AllPlayed
  none_ended last check final i [] [] fs e h = refl
  none_ended last check final i [] (s ∷ ss) fs e h = absurd h
  none_ended last check final i (x ∷ xs) [] fs e h = absurd h
  none_ended last check final i (x ∷ xs) (s ∷ ss) [] e h = absurd h
  none_ended last check final i (x ∷ xs) (s ∷ ss) (f ∷ fs) e h =
      ap (λ (o : Option ℕ). is_some o || list_any (λ s. is_some s.terminator) ss) (h.0.stand.end ∙ e) ∙ none_ended last check final (suc i) xs ss fs e h.1

after_force : (place : Place) (x : Coded) (s : Segment) → (coded_after place x s).force ≡ force_after place x.force s.blocks.items
unfolding coded_after
after_force place x s = refl

-- ---- the unit

module _ (j : ℕ) (e : Going) (d : Decoded) (frames : List (List ℤ)) (last : Bool) (time : ℕ) (can : CanSendUnit e frames last) (h : Follows j e d) (some : j < substreams_of e.profile.channels) where
  abbrev p : Profile
  p = e.profile

  abbrev n : ℕ
  n = e.units

  abbrev cs : List CodedFrame
  cs = coded e.profile (filled e.profile frames)

  abbrev t : Option ℕ
  t = terminator_of e.profile (length frames) last

  abbrev sent : SentUnit
  sent = unit_sent e frames last

  abbrev bs : List (List ℕ)
  bs = segments_bytes (place_of e) e.force (unit_sent e frames last).segments

  abbrev outer : AccessUnit
  outer = written_unit (time % 2 ^ 16) (major_of e) (body_of e (unit_sent e frames last)).entries (body_of e (unit_sent e frames last)).bytes

  abbrev contents : List Segment
  contents = take (length d.substreams) (unit_sent e frames last).segments

  abbrev pub unit : Unit_of
  unit = record { outer = outer; contents = take (length d.substreams) (unit_sent e frames last).segments }

  is : Passes e.profile
  is = passes e.profile can.profile

  shows : IsPresentation j e.profile.channels
  shows = presentation e.profile j is some

  -- ---- where it stands

  pub same_sync : in_force d.sync (major_of e) ≡ Some (sync_of e.profile)
  same_sync = ap (λ (o : Option MajorSync). in_force o (major_of e)) h.sync ∙ pick (n == 0) refl
    where
      pick : (t : Bool) → (e.units == 0) ≡ t → in_force (if t then None else Some (sync_of e.profile)) (if has_sync e.units then Some (sync_of e.profile) else None) ≡ Some (sync_of e.profile)
      pick false z = refl
      pick true z = ap (λ (k : ℕ). if has_sync k then Some (sync_of e.profile) else None) (eqb-true e.units 0 z)

  place_is : decoder_place d outer ≡ place_of e
  place_is =
      ap (λ (o : Option MajorSync). let x : Place = record { format = stream_kind o; unit_frames = frames_in_unit o; major = is_some (major_of e) } in x) same_sync
      ∙ ap (λ (k : Kind). let x : Place = record { format = k; unit_frames = frames_in_unit (Some (sync_of e.profile)); major = is_some (major_of e) } in x) (sync_kind e.profile)
      ∙ ap (λ (k : ℕ). let x : Place = record { format = e.profile.kind; unit_frames = k; major = is_some (major_of e) } in x) (sync_frames e.profile is)
      ∙ ap (λ (b : Bool). let x : Place = record { format = e.profile.kind; unit_frames = unit_of e.profile.rate; major = b } in x) (is_there (has_sync e.units) (sync_of e.profile))

  -- ---- its segments

  few : length d.substreams ≤ length e.force
  few = omega (arith, h.count, can.count, some)

  along : Alongside e.profile e.units e.checks cs t 0 d.substreams e.force e.pasts
  along = along_from e.profile e.units e.checks cs t 0 d.substreams e.force e.pasts few (λ k lt. h.force k (omega (arith, lt, h.count)))
      (λ k c lt. let z : 0 + k ≡ k = omega arith in
      subst (λ (m : ℕ). first_channel m ≤ c → c ≤ last_channel m → past_of_channel (get_or d.substreams k nothing_coded).pasts c ≡ past_of_channel e.pasts c) (sym z) (h.pasts k c (omega (arith, lt, h.count))))

  coded_full : length cs ≡ unit_of e.profile.rate
  coded_full = length-map (filled e.profile frames) _ ∙ filled_count e.profile frames last can.frames_are

  all_played : Plays e.profile e.units e.checks cs t j (folded d.check) 0 d.substreams e.pasts (unit_sent e frames last)
  unfolding unit_sent
  all_played = plays e.profile e.units e.checks cs t j (folded d.check) coded_full (λ z. ap folded (sym h.check)) 0 d.substreams e.force e.pasts few can.segments along

  bytes_of_all : HasBytes e.profile e.units e.checks cs t e.force (unit_sent e frames last).segments (segments_bytes (place_of e) e.force (unit_sent e frames last).segments)
  unfolding unit_sent
  bytes_of_all = has_bytes e.profile e.units e.checks cs t 0 e.force e.pasts can.segments

  contents_count : length contents ≡ j + 1
  contents_count = length-take-le (length d.substreams) (unit_sent e frames last).segments (omega (arith, few, bytes_of_all.count)) ∙ h.count

  -- ---- the outer part

  allowed : Allowed (access_unit d.sync) outer
  allowed = outer_allowed e.profile is d.sync (has_sync e.units) bs same_sync (bytes_of_all.bytes_count ∙ can.count) (time % 2 ^ 16) (omega arith) can.writable bytes_of_all.small can.small

  abbrev text : List Bool
  text = (access_unit d.sync).spelling outer

  pub bytes_text : bits_of (unit_bytes time (body_of e (unit_sent e frames last))) ≡ (access_unit d.sync).spelling outer
  bytes_text =
      let same = fits_text d.sync outer allowed.fits in
      let size = access_unit_size d.sync outer allowed.fits in
      let size_of : ℕ = 4 + (major_size outer.major + (directory_size outer.entries + length outer.body)) in
      bits_again size_of (unit_text outer) (ap length (sym same) ∙ size ∙ omega arith) ∙ sym same

  pub sized : length (unit_bytes time (body_of e (unit_sent e frames last))) ≡ body_size (body_of e (unit_sent e frames last))
  sized =
      let same = fits_text d.sync outer allowed.fits in
      let size = access_unit_size d.sync outer allowed.fits in
      let size_of : ℕ = 4 + (major_size outer.major + (directory_size outer.entries + length outer.body)) in
      bytes_count size_of (unit_text outer) (ap length (sym same) ∙ size ∙ omega arith) ∙ omega arith

  pub words_are : 2 * outer.head.words ≡ length (unit_bytes time (body_of e (unit_sent e frames last)))
  words_are = can.even ∙ sym sized

  outer_found : (rest : List Bool) → Found ((whole j).outer d) (bits_of (unit_bytes time (body_of e (unit_sent e frames last))) ++ rest) 0 outer
  unfolding tested
  outer_found rest =
      let all : bits_of (unit_bytes time (body_of e (unit_sent e frames last))) ++ rest ≡ text ++ rest = ap (λ (b : List Bool). b ++ rest) bytes_text in
      record {
        fits = allowed.fits;
        meets = (subst (λ (b : Bool). IsTrue (not b)) (sym h.going_on) refl, allowed.meets);
        stands = record {
          within = omega (arith, ap length all, length-append text rest);
          text_is = ap (take (length text)) all ∙ take-append_seam text rest;
        };
      }

  -- ---- what stands in it

  restarts_alike : (i k : ℕ) → is_some (restart_in e.profile e.units e.checks i) ≡ is_some (restart_in e.profile e.units e.checks k)
  restarts_alike i k = is_there (has_sync e.units) _ ∙ sym (is_there (has_sync e.units) _)

  found_here : FoundIn (segments (portion j (place_of e) d.substreams (folded d.check) outer) (length contents) []) text contents
  found_here =
      let stand = all_stand e.profile e.units e.checks cs t j (folded d.check) sent.pasts 0 d.substreams contents sent.force all_played.played in
      let bits = all_bits j (place_of e) d.substreams (folded d.check) outer (restart_in e.profile e.units e.checks) t d.sync allowed.fits (has_sync e.units) bs refl refl bytes_of_all.even 0 contents
      (omega (arith, contents_count, some, bytes_of_all.bytes_count, can.count))
      (λ k lt. each_bits k (omega (arith, lt, contents_count))) in
      found_all j (place_of e) d.substreams (folded d.check) outer (restart_in e.profile e.units e.checks) t text d.substreams contents (omega (arith, contents_count, shows.few)) refl restarts_alike stand bits
    where
      each_bits : (k : ℕ) → k < j + 1 → bits_of (get_or bs (0 + k) []) ≡ (segment (place_of e) unknown (coded_at d.substreams (0 + k)).force true).spelling (get_or contents k no_segment)
      each_bits k lt =
          let z : 0 + k ≡ k = omega arith in
          subst (λ (m : ℕ). bits_of (get_or bs m []) ≡ (segment (place_of e) unknown (coded_at d.substreams m).force true).spelling (get_or contents k no_segment)) (sym z)
          (bytes_of_all.each k (omega (arith, lt, can.count, some))
          ∙ ap (λ (f : Option State). (segment (place_of e) unknown f true).spelling (get_or (unit_sent e frames last).segments k no_segment)) (sym (h.force k (omega (arith, lt))))
          ∙ ap (λ (s : Segment). (segment (place_of e) unknown (coded_at d.substreams k).force true).spelling s) (sym (get_or-take (length d.substreams) (unit_sent e frames last).segments k no_segment (omega (arith, lt, h.count)))))

  contents_found : FoundIn ((whole j).contents d outer) text contents
  contents_found =
      subst (λ (x : Place). FoundIn (segments (portion j x d.substreams (folded d.check) outer) (j + 1) []) text contents) (sym place_is)
      (subst (λ (m : ℕ). FoundIn (segments (portion j (place_of e) d.substreams (folded d.check) outer) m []) text contents) contents_count found_here)

  pub next : (rest : List Bool) → IsNext (whole j) d (bits_of (unit_bytes time (body_of e (unit_sent e frames last))) ++ rest) unit
  unfolding tested
  next rest = record { outer = outer_found rest; contents = contents_found }

  pub spelled : spelling_of (whole j) d unit ≡ bits_of (unit_bytes time (body_of e (unit_sent e frames last)))
  unfolding tested
  spelled = sym bytes_text

  -- ---- its timings

  stand_here : AllStand (place_of e) (restart_in e.profile e.units e.checks) t j (folded d.check) 0 d.substreams contents
  stand_here = all_stand e.profile e.units e.checks cs t j (folded d.check) sent.pasts 0 d.substreams contents sent.force all_played.played

  pub outputs_are : All (λ o. o ≡ output_timing e.profile e.units) (output_timings (take (length d.substreams) (unit_sent e frames last).segments))
  outputs_are = all_tell e.profile e.units e.checks t j (folded d.check) 0 d.substreams contents stand_here

  -- ---- what it gives

  top_played : IsPlayed e.profile e.units e.checks cs t j (folded d.check) sent.pasts j (get_or d.substreams j nothing_coded) (get_or contents j no_segment) (get_or sent.force j None)
  top_played =
      let z : 0 + j ≡ j = omega arith in
      subst (λ (m : ℕ). IsPlayed e.profile e.units e.checks cs t j (folded d.check) sent.pasts m (get_or d.substreams j nothing_coded) (get_or contents j no_segment) (get_or sent.force j None)) z
      (played_at e.profile e.units e.checks cs t j (folded d.check) sent.pasts 0 d.substreams contents sent.force j all_played.played (omega (arith, h.count)))

  force_is : force_after (decoder_place d outer) (coded_at d.substreams j).force (top_of j contents).blocks.items ≡ Some top_played.behind
  force_is = ap (λ (x : Place). force_after x (coded_at d.substreams j).force (top_of j contents).blocks.items) place_is ∙ top_played.back.force

  heard_is : heard_of j d unit ≡ map (λ x. take (channels_of j) (presented_of e.profile.mix (24 - e.profile.depth) e.profile.channels j x)) frames
  unfolding heard_of
  heard_is =
      let top : Segment = top_of j contents in
      let st : State = top_played.behind in
      let back = all_back e.profile e.units e.checks cs t j (folded d.check) sent.pasts 0 d.substreams contents sent.force all_played.played in
      let codes : length top.codes.items ≡ length (filled e.profile frames) = top_played.stand.count ∙ sym (filled_count e.profile frames last can.frames_are) in
      let first : List ℤ → List ℤ = λ x. take (channels_of j) (presented_of e.profile.mix (24 - e.profile.depth) e.profile.channels j x) in
      ap (λ (x : Place). heard_in x (channel x d.substreams contents) d.seed top (force_after x (coded_at d.substreams j).force top.blocks.items)) place_is
      ∙ ap (λ (f : Option State). heard_in (place_of e) (channel (place_of e) d.substreams contents) d.seed top f) top_played.back.force
      ∙ heard_unit e.profile.mix e.profile.depth e.profile.channels j (mixed_there e.profile is) shows.fits shows.few (filled e.profile frames) (filled_samples e.profile frames last can.frames_are)
      (place_of e) d.substreams contents back h.count
      top st top_played.top top_played.plain.max_matrix top_played.bits codes d.seed
      ∙ ap (λ (o : Option ℕ). take (length (filled e.profile frames) - dropped e.profile.kind o) (map first (filled e.profile frames))) top_played.stand.end
      ∙ ap (λ (k : ℕ). take k (map first (filled e.profile frames))) (kept e.profile is frames last can.frames_are)
      ∙ front_kept e.profile is frames last can.frames_are first

  pub frames_given : frames_out j d unit ≡ map (presented_of e.profile.mix (low_zeros e.profile.depth) e.profile.channels j) frames
  frames_given =
      ap (λ (f : Option State). placed_by f (heard_of j d unit)) force_is
      ∙ ap (λ (fs : List (List ℤ)). placed_each top_played.behind fs) heard_is
      ∙ all_placed e.profile.mix e.profile.depth e.profile.channels j (mixed_there e.profile is) shows.fits shows.few top_played.behind top_played.top frames can.frames_are.samples

  -- ---- what it leaves

  played_of : (i : ℕ) → i ≤ j → IsPlayed e.profile e.units e.checks cs t j (folded d.check) sent.pasts i (get_or d.substreams i nothing_coded) (get_or contents i no_segment) (get_or sent.force i None)
  played_of i le =
      let z : 0 + i ≡ i = omega arith in
      subst (λ (m : ℕ). IsPlayed e.profile e.units e.checks cs t j (folded d.check) sent.pasts m (get_or d.substreams i nothing_coded) (get_or contents i no_segment) (get_or sent.force i None)) z
      (played_at e.profile e.units e.checks cs t j (folded d.check) sent.pasts 0 d.substreams contents sent.force i all_played.played (omega (arith, h.count, le)))

  -- ---- it is chosen

  pub unit_chosen : IsChosen e.profile j e.units d unit
  unit_chosen = record {
    major = refl;
    entries = entries_plain (has_sync e.units) 0 bs;
    segments = λ i le.
        subst (λ (x : Place). IsChosenSegment e.profile i e.units x (coded_at d.substreams i) (get_or contents i no_segment)) (sym place_is)
        (played_chosen e.profile e.units e.checks cs t j (folded d.check) sent.pasts i (get_or d.substreams i nothing_coded) (get_or contents i no_segment) (get_or sent.force i None) (played_of i le));
  }

  -- ---- .. and what it leaves

  coded_there : (i : ℕ) → i ≤ j → coded_at (coded_each (decoder_place d outer) d.substreams contents) i ≡ coded_after (place_of e) (get_or d.substreams i nothing_coded) (get_or contents i no_segment)
  coded_there i le =
      ap (λ (x : Place). coded_at (coded_each x d.substreams contents) i) place_is
      ∙ coded_each-at (place_of e) d.substreams contents i (omega (arith, h.count, le)) (omega (arith, contents_count, le))

  check_is : last ≡ false → check_of (if is_some (major_of e) then 0 else d.check) (heard_of j d unit) ≡ check_behind e frames j
  check_is going =
      let all : List (List ℤ) → List (List ℤ) = map (presented_of e.profile.mix (24 - e.profile.depth) e.profile.channels j) in
      let fronts : List (List ℤ) = map (λ x. take (channels_of j) (presented_of e.profile.mix (24 - e.profile.depth) e.profile.channels j x)) frames in
      ap (λ (b : Bool). check_of (if b then 0 else d.check) (heard_of j d unit)) (is_there (has_sync e.units) (sync_of e.profile))
      ∙ ap (λ (r : ℕ). check_of (if has_sync e.units then 0 else r) (heard_of j d unit)) h.check
      ∙ ap (λ (fs : List (List ℤ)). check_of (if has_sync e.units then 0 else get_or e.checks j 0) fs) heard_is
      ∙ checks_same e.profile.mix (24 - e.profile.depth) e.profile.channels j (if has_sync e.units then 0 else get_or e.checks j 0) frames
      ∙ ap (λ (fs : List (List ℤ)). check_of (if has_sync e.units then 0 else get_or e.checks j 0) (all fs)) (sym (whole_unit e.profile is frames last can.frames_are going))

  pub follows_on : (fifo : LeftFifo) → last ≡ false → Follows j (behind e frames (unit_sent e frames last) fifo) (after j d unit)
  unfolding after
  follows_on fifo going = record {
    sync = same_sync ∙ sym (ap (λ (b : Bool). if b then None else Some (sync_of e.profile)) (ne_eqb (e.units + 1) 0 (λ z. absurd (omega (arith, z)))));
    going_on = none_ended e.profile e.units e.checks cs t j (folded d.check) sent.pasts 0 d.substreams contents sent.force (ap (λ (b : Bool). terminator_of e.profile (length frames) b) going) all_played.played;
    count = length-each (decoder_place d outer) d.substreams contents ∙ h.count;
    force = λ i le. ap (λ (x : Coded). x.force) (coded_there i le) ∙ after_force (place_of e) (get_or d.substreams i nothing_coded) (get_or contents i no_segment) ∙ (played_of i le).back.force ∙ sym (played_of i le).force;
    pasts = λ i c le from to. ap (λ (x : Coded). past_of_channel x.pasts c) (coded_there i le) ∙ (played_of i le).pasts c from to;
    check = check_is going ∙ sym (get_or-map-range_with_len (check_behind e frames) 0 (substreams_of e.profile.channels) j j 0 some (omega arith));
  }
