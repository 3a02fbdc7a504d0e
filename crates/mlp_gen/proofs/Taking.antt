-- What a player does with a unit.
use Rattle.std.proofs.Common.{◌≡◌, ℕ, ◌+◌, ◌*◌, ◌%◌, ◌^◌, ◌≤◌, List, [], length, take, ℤ, true, false, Option, Some, None, Result, Ok, Err, refl, sym, ap, ◌∙◌, subst, arith}
use Rattle.std.specs.Prelude.{sum, IsOk, IfOk, MatchResult}
use Rattle.mlp_unit.specs.Shape.{unit_with}
use Rattle.mlp_walk.specs.declared.refusal.Refusal.{Refusal as Declined}
use Rattle.mlp_stream.specs.declared.refusal.Refusal.{Refusal}
use Rattle.mlp_stream.specs.Moves.{Move, Waits, Takes, Refuses, moved}
use Rattle.mlp_pcm.specs.Samples.{packed, Packs}
use Rattle.mlp_decoded.proofs.DecodedLaw.{none_low}
use Rattle.mlp_contents.specs.Units.{frames_out}
use Rattle.mlp_fold.specs.Mix.{channels_of}
use Rattle.mlp_present.specs.Parts.{Next}
use Rattle.mlp_present.specs.Decoding.{Held, next_unit, after_unit, GivesUnit}
use Rattle.mlp_extract.specs.Extract.{extracted_bytes}
use Rattle.mlp_extract.specs.Extractor.{extract_step}
use Rattle.mlp_extract.proofs.ExtractSteps.{extract_taken}
use Rattle.mlp_gen.specs.Player.{Played, sum_with, after_played, Took, IsPlaying}

-- ---- the decoder

pub record Gave (held : Held) (bytes : List ℕ) (frames : List (List ℤ)) (new : Held) : Type 0 where
  pub size : ℕ
  pub gives : GivesUnit held bytes size frames new

pub gave : (held same new : Held) (bytes : List ℕ) (frames : List (List ℤ)) (r : Result ℕ Declined) → IsOk (next_unit held bytes) → same ≡ held
    → MatchResult r (λ size. GivesUnit same bytes size frames new) (λ refusal. next_unit same bytes ≡ Err refusal) → Gave held bytes frames new
gave held same new bytes frames (Ok size) is e g = record { size = size; gives = subst (λ (h : Held). GivesUnit h bytes size frames new) e g }
gave held same new bytes frames (Err refusal) is e g =
    absurd (let z : false ≡ true = subst (λ (r : Next). IsOk r) (ap (λ (h : Held). next_unit h bytes) (sym e) ∙ g) is in cc)

-- ---- the bytes of the samples

abbrev pub none : Option ℕ
none = None

pub none_some : (i : ℕ) → none ≡ Some i → ⊥
none_some i e = cc

pub packs_all : (channels : ℕ) (rows : List (List ℤ)) (out : List ℕ) (r : Result Unit ℕ) → Packs 24 channels rows out r → out ≡ packed 24 channels rows
packs_all channels rows out (Ok x) p = p.1
packs_all channels rows out (Err i) p = absurd (none_some i (sym (none_low channels rows) ∙ p.0))

-- ---- the extractor

bytes_in : Move Held → List ℕ
bytes_in Waits = []
bytes_in (Takes size bytes held) = bytes
bytes_in (Refuses refusal) = []

held_in : Held → Move Held → Held
held_in other Waits = other
held_in other (Takes size bytes held) = held
held_in other (Refuses refusal) = other

pub record Extracted (held : Held) (out : List ℕ) (new other : Held) (bytes : List ℕ) (frames : List (List ℤ)) (g : Gave held bytes frames new) : Type 0 where
  pub bytes_are : out ≡ extracted_bytes held.k g.gives.unit.outer
  pub same : other ≡ new

pub extracted : (held new other : Held) (bytes out : List ℕ) (frames : List (List ℤ)) (g : Gave held bytes frames new) (r : Result ℕ Refusal) → extract_step held true bytes ≡ moved r out other
    → Extracted held out new other bytes frames g
unfolding bytes_in held_in
extracted held new other bytes out frames g r e =
    let made : List ℕ = extracted_bytes held.k (unit_with (take g.size bytes) g.gives.outer) in
    pick r (sym (extract_taken held new bytes made g.size frames g.gives refl) ∙ e)
  where
    pick : (r : Result ℕ Refusal) → Takes g.size (extracted_bytes held.k (unit_with (take g.size bytes) g.gives.outer)) new ≡ moved r out other → Extracted held out new other bytes frames g
    pick (Ok n) e = record {
      bytes_are = sym (ap bytes_in e) ∙ ap (extracted_bytes held.k) (sym g.gives.outer_is);
      same = sym (ap (held_in new) e);
    }
    pick (Err refusal) e = absurd cc

-- ---- both

pub took : (x : Played) (bytes out samples : List ℕ) (new : Held) (frames : List (List ℤ)) (given total size : ℕ) (g : Gave x.held bytes frames new) → given ≡ x.frames + length frames
    → samples ≡ packed 24 (channels_of x.held.k) frames → total ≡ (x.sum + sum samples) % 2 ^ 32 → out ≡ extracted_bytes x.held.k g.gives.unit.outer → size ≡ x.extracted + length out
    → Took bytes x (record { held = new; frames = given; sum = total; extracted = size })
took x bytes out samples new frames given total size g given_is samples_are total_is out_is size_is =
    let made : Played = record { held = new; frames = given; sum = total; extracted = size } in
    let f : given ≡ x.frames + length (frames_out x.held.k x.held.left g.gives.unit) = given_is ∙ ap (λ (rows : List (List ℤ)). x.frames + length rows) g.gives.frames_are in
    let s : total ≡ sum_with x.held.k x.sum (frames_out x.held.k x.held.left g.gives.unit) =
    total_is ∙ ap (λ (xs : List ℕ). (x.sum + sum xs) % 2 ^ 32) samples_are ∙ ap (λ (rows : List (List ℤ)). sum_with x.held.k x.sum rows) g.gives.frames_are in
    let e : size ≡ x.extracted + length (extracted_bytes x.held.k g.gives.unit.outer) = size_is ∙ ap (λ (xs : List ℕ). x.extracted + length xs) out_is in
    let same : made ≡ after_played x g.gives.unit =
    ap (λ (h : Held). let y : Played = record { held = h; frames = given; sum = total; extracted = size } in y) g.gives.held_is
    ∙ ap (λ (n : ℕ). let y : Played = record { held = after_unit x.held g.gives.unit; frames = n; sum = total; extracted = size } in y) f
    ∙ ap (λ (n : ℕ). let y : Played = record { held = after_unit x.held g.gives.unit; frames = x.frames + length (frames_out x.held.k x.held.left g.gives.unit); sum = n; extracted = size } in y) s
    ∙ ap (λ (n : ℕ). let y : Played = record {
      held = after_unit x.held g.gives.unit;
      frames = x.frames + length (frames_out x.held.k x.held.left g.gives.unit);
      sum =
          sum_with x.held.k x.sum (frames_out x.held.k x.held.left g.gives.unit);
      extracted = n;
    } in y) e in
    subst (λ (r : Next). IfOk r (λ t. made ≡ after_played x t.unit)) (sym g.gives.next_is) same

pub still_playing : (k : ℕ) (held new other : Held) (bytes : List ℕ) (frames : List (List ℤ)) (given size : ℕ) (g : Gave held bytes frames new) → held.k ≡ k → k ≤ 2 → other ≡ new
    → given ≤ 160 * (held.units + 1) → size ≤ 8190 * (held.units + 1)
    → IsPlaying k new other given size
still_playing k held new other bytes frames given size g k_is most same few small =
    let units : new.units ≡ held.units + 1 = ap (λ (h : Held). h.units) g.gives.held_is in
    record {
      same = same;
      k_is = ap (λ (h : Held). h.k) g.gives.held_is ∙ k_is;
      most = most;
      few_frames = omega (arith, few, units);
      few_bytes = omega (arith, small, units);
    }
