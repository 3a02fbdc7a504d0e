-- The frames of a unit, once they are mixed, can be sent.
use Rattle.std.proofs.Common.{◌≡◌, ℕ, zero, suc, ◌<◌, ◌≤◌, ℤ, Bool, true, false, List, length, get_or, ◌∙◌, arith}
use Rattle.std.specs.Prelude.{All, cond}
use Rattle.mlp_matrix.specs.Matrix.{is_even}
use Rattle.std.proofs.lemmas.List.{length-map}
use Rattle.std.proofs.lemmas.List.Elements.{All-map}
use Rattle.mlp_arith.specs.Words.{clear}
use Rattle.mlp_arith.specs.Ranges.{Is26}
use Rattle.mlp_fifo.specs.Pace.{unit_of}
use Rattle.mlp_fold.specs.declared.profile.Mix.{Mix}
use Rattle.mlp_fold.specs.declared.profile.Mix.TheVariants.{Split, Fold, Bypass, Side}
use Rattle.mlp_fold.specs.declared.profile.Profile.{Profile}
use Rattle.mlp_fold.specs.declared.coding.CodedFrame.{CodedFrame}
use Rattle.mlp_fold.specs.Profile.{AreMixed}
use Rattle.mlp_fold.specs.Mix.{AreSamples, at, channels_of, coded_frame, bypass_of, low_bit}
use Rattle.mlp_fold.specs.Rows.{steps_of}
use Rattle.mlp_fold.specs.Substreams.{last_channel}
use Rattle.mlp_fold.proofs.Bounds.{all_coded}
use Rattle.mlp_fold.proofs.ByStep.{by_step}
use Rattle.mlp_encode.specs.Numbers.{low_zeros}
use Rattle.mlp_encode.specs.Lawful.{AreCodedBy}
use Rattle.mlp_encode.specs.Unit.{coded}

last_below : (j c : ℕ) → c ≤ last_channel j → c < channels_of j
last_below zero c h = omega (arith, h)
last_below (suc zero) c h = omega (arith, h)
last_below (suc (suc j)) c h = omega (arith, h)

bit_small : (x : ℤ) → low_bit x ≤ 1
bit_small x = one (is_even x)
  where
    one : (b : Bool) → cond b 0 1 ≤ 1
    one true = omega arith
    one false = omega arith

bypass_small : (mix : Mix) (x : List ℤ) → bypass_of mix x < 16
bypass_small Split x = omega arith
bypass_small Fold x = omega arith
bypass_small Bypass x = omega (arith, bit_small (at x 2), bit_small (at x 3), bit_small (at x 4), bit_small (at x 5))
bypass_small Side x = omega arith

pub coded_by : (p : Profile) (frames : List (List ℤ)) → AreMixed p.mix p.depth p.channels → All (AreSamples (low_zeros p.depth) p.channels) frames → length frames ≡ unit_of p.rate → AreCodedBy p (coded p frames)
coded_by p frames m h count = record {
  count = length-map frames (coded_frame p.mix (low_zeros p.depth) p.channels) ∙ count;
  samples = λ c. All-map Is26 (λ (f : CodedFrame). at f.values c) (coded p frames) (λ k d i. all_coded p.mix p.depth p.channels frames m h k d i c);
  bits = All-map (λ (f : CodedFrame). f.bypass < 16) (coded_frame p.mix (low_zeros p.depth) p.channels) frames (λ k d i. bypass_small p.mix (get_or frames k d));
  whole = λ j c top le.
      let P : ℤ → Type 0 = λ x. clear (get_or (steps_of p.mix (low_zeros p.depth) j) c 0) x ≡ x in
      All-map P (λ (f : CodedFrame). at f.values c) (coded p frames)
      (All-map (λ (f : CodedFrame). P (at f.values c)) (coded_frame p.mix (low_zeros p.depth) p.channels) frames
      (λ k d i. by_step p.mix p.depth p.channels j m top (get_or frames k d) c (h k d i) (last_below j c le)));
}
