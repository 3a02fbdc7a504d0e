-- The frames of a unit, as the decoder of a presentation hears them.
use Rattle.std.proofs.Common.{◌≡◌, ℕ, suc, ◌+◌, ◌-◌, ◌<◌, ◌≤◌, ℤ, List, [], map, length, take, get_or, Some, sym, ap, ◌∙◌, subst, arith}
use Rattle.std.specs.Prelude.{All, if◌then◌else◌}
use Rattle.std.proofs.lemmas.List.{length-map, get_or-map}
use Rattle.mlp_syntax.specs.declared.segment.Segment.{Segment}
use Rattle.mlp_params.specs.declared.state.State.{State}
use Rattle.mlp_substream.specs.declared.known.Place.{Place}
use Rattle.mlp_channels.specs.Channels.{Coded}
use Rattle.mlp_output.specs.Output.{heard, dropped}
use Rattle.mlp_contents.specs.Frames.{channel, frames_of, heard_in}
use Rattle.mlp_fold.specs.declared.profile.Mix.{Mix}
use Rattle.mlp_fold.specs.declared.coding.CodedFrame.{CodedFrame}
use Rattle.mlp_fold.specs.Profile.{AreMixed}
use Rattle.mlp_fold.specs.Mix.{AreSamples, channels_of, coded_frame, presented_of}
use Rattle.mlp_fold.specs.Rows.{rows_of}
use Rattle.mlp_fold.specs.Substreams.{first_channel, last_channel}
use Rattle.mlp_encode.specs.Coding.{column}
use Rattle.mlp_encode.specs.Blocks.{bypass_in}
use Rattle.mlp_encode.proofs.SentChannels.{last_most}
use Rattle.mlp_lossless.proofs.Shown.{coded_eight}
use Rattle.mlp_lossless.proofs.Coverage.{AreBack, first_next, channel_is, frames_back}
use Rattle.mlp_lossless.proofs.Heard.{IsTop, all_heard}

module _ (mix : Mix) (depth channels j : ℕ) (m : AreMixed mix depth channels) (top_fits : channels_of j ≤ channels) (le : j ≤ 2) (pcm : List (List ℤ)) (samples : All (AreSamples (24 - depth) channels) pcm) where
  abbrev coded : List CodedFrame
  coded = map (coded_frame mix (24 - depth) channels) pcm

  coded_count : length (map (coded_frame mix (24 - depth) channels) pcm) ≡ length pcm
  coded_count = length-map pcm (coded_frame mix (24 - depth) channels)

  -- each coded frame has all matrix channels
  wide : (i : ℕ) → i < length (map (coded_frame mix (24 - depth) channels) pcm) → last_channel j + 1 ≤ length (get_or (map (coded_frame mix (24 - depth) channels) pcm) i (record { values = []; bypass = 0 })).values
  wide i lt =
      let at = get_or-map (coded_frame mix (24 - depth) channels) pcm i [] (record { values = []; bypass = 0 }) (omega (arith, lt, coded_count)) in
      let n = ap (λ (f : CodedFrame). length f.values) at in
      omega (arith, n, coded_eight mix (24 - depth) channels (get_or pcm i []), last_most j)

  module _ (place : Place) (xs : List Coded) (ss : List Segment) (back : AreBack place (map (coded_frame mix (24 - depth) channels) pcm) 0 xs ss) (count : length xs ≡ j + 1) where
    same : (c : ℕ) → c < last_channel j + 1 → channel place xs ss c ≡ column c (map (coded_frame mix (24 - depth) channels) pcm)
    same c lt =
        let n : 0 + length xs ≡ suc j = omega (arith, count) in
        channel_is place (map (coded_frame mix (24 - depth) channels) pcm) 0 xs ss c back (omega arith)
        (subst (λ (k : ℕ). c < first_channel k) (sym n) (omega (arith, first_next j, lt)))

    frames_are : frames_of (channel place xs ss) (last_channel j) (length pcm) ≡ map (λ f. take (channels_of j) f.values) (map (coded_frame mix (24 - depth) channels) pcm)
    frames_are =
        let coded : List CodedFrame = map (coded_frame mix (24 - depth) channels) pcm in
        let n : last_channel j + 1 ≡ channels_of j = sym (first_next j) in
        ap (λ (k : ℕ). frames_of (channel place xs ss) (last_channel j) k) (sym coded_count)
        ∙ frames_back (channel place xs ss) coded (last_channel j) same wide
        ∙ ap (λ (k : ℕ). map (λ f. take k f.values) coded) n

    module _ (top : Segment) (st : State) (is : IsTop mix depth channels j st) (matrix : st.restart.max_matrix ≡ last_channel j)
        (bits : map (λ f. f.bypass) top.codes.items ≡ map (bypass_in (rows_of mix j channels)) (map (coded_frame mix (24 - depth) channels) pcm)) (codes : length top.codes.items ≡ length pcm) where
      -- what is heard of the frames that aren't dropped
      pub heard_unit : (seed : ℕ) → heard_in place (channel place xs ss) seed top (Some st)
          ≡ take (length pcm - dropped place.format top.terminator) (map (λ x. take (channels_of j) (presented_of mix (24 - depth) channels j x)) pcm)
      heard_unit seed =
          let first : ℕ = if place.major then st.restart.seed else seed in
          let kept : ℕ = dropped place.format top.terminator in
          let cs : ℕ → List ℤ = channel place xs ss in
          ap (λ (n : ℕ). take (n - kept) (heard st first (map (λ f. f.bypass) top.codes.items) (frames_of cs st.restart.max_matrix n))) codes
          ∙ ap (λ (k : ℕ). take (length pcm - kept) (heard st first (map (λ f. f.bypass) top.codes.items) (frames_of cs k (length pcm)))) matrix
          ∙ ap (λ (bs : List ℕ). take (length pcm - kept) (heard st first bs (frames_of cs (last_channel j) (length pcm)))) bits
          ∙ ap (λ (fs : List (List ℤ)). take (length pcm - kept) (heard st first (map (bypass_in (rows_of mix j channels)) (map (coded_frame mix (24 - depth) channels) pcm)) fs)) frames_are
          ∙ ap (take (length pcm - kept)) (all_heard mix depth channels j m top_fits le st is first pcm samples)
