use Rattle.std.proofs.Common.{◌≡◌, ◌∙◌, ◌+◌, ◌%◌, ◌^◌, ℕ, List, true, sym, ap, subst, arith}
use Rattle.std.specs.Prelude.{sum}
use Rattle.mlp_fold.specs.Mix.{channels_of}
use Rattle.mlp_pcm.specs.Samples.{packed}
use Rattle.mlp_stream.specs.Moves.{moved}
use Rattle.mlp_present.specs.Decoding.{Held}
use Rattle.mlp_extract.specs.Extractor.{extract_step}
use Rattle.mlp_gen.specs.Player.{Played, Took, CanTake}
use Rattle.mlp_gen.proofs.Taking.{gave, packs_all, extracted, took, still_playing}
use Rattle.mlp_gen.proofs.player.Player.take.Goals as goal

pub invariant_of-self : goal.invariant_of-self
invariant_of-self c =
    let held : Held = c.self.inside.decoder.value in
    let can = subst (λ (x : Played). CanTake c.args.unit.now x) (sym c.self.view_is) c.requires in
    let g = gave held c.deref_mut.result.now c.unit-taken.new.self c.args.unit.now c.unit-taken.new.out.items c.unit-taken.result can.0 c.deref_mut.ensures.value c.unit-taken.ensures.unit in
    let e = extracted held c.unit-taken.new.self c.unit-extracted.new.self c.args.unit.now c.unit-extracted.new.out.items c.unit-taken.new.out.items g c.unit-extracted.result
    (subst (λ (h : Held). extract_step h true c.args.unit.now ≡ moved c.unit-extracted.result c.unit-extracted.new.out.items c.unit-extracted.new.self) (c.deref_mut-2.ensures.value ∙ c.self.invariant.same) c.unit-extracted.ensures.unit) in
    still_playing c.self.inside.presentation held c.unit-taken.new.self c.unit-extracted.new.self c.args.unit.now c.unit-taken.new.out.items (c.self.inside.given + c.len.result)
    (c.self.inside.extracted + c.len-2.result) g c.self.invariant.k_is c.self.invariant.most e.same
    (omega (arith, c.self.invariant.few_frames, c.len.ensures.fits)) (omega (arith, c.self.invariant.few_bytes, c.len-2.ensures.fits))

pub returns : goal.returns
returns c =
    let held : Held = c.self.inside.decoder.value in
    let can = subst (λ (x : Played). CanTake c.args.unit.now x) (sym c.self.view_is) c.requires in
    let g = gave held c.deref_mut.result.now c.unit-taken.new.self c.args.unit.now c.unit-taken.new.out.items c.unit-taken.result can.0 c.deref_mut.ensures.value c.unit-taken.ensures.unit in
    let e = extracted held c.unit-taken.new.self c.unit-extracted.new.self c.args.unit.now c.unit-extracted.new.out.items c.unit-taken.new.out.items g c.unit-extracted.result
    (subst (λ (h : Held). extract_step h true c.args.unit.now ≡ moved c.unit-extracted.result c.unit-extracted.new.out.items c.unit-extracted.new.self) (c.deref_mut-2.ensures.value ∙ c.self.invariant.same) c.unit-extracted.ensures.unit) in
    let before : Played = record { held = held; frames = c.self.inside.given; sum = c.self.inside.sum; extracted = c.self.inside.extracted } in
    let channels : c.channels_of-channels.result ≡ channels_of held.k = c.channels_of-channels.ensures ∙ ap channels_of (sym c.self.invariant.k_is) in
    let samples = packs_all c.channels_of-channels.result c.deref.result.now c.pack_unit-packed.new.out.items c.pack_unit-packed.result c.pack_unit-packed.ensures in
    let all = samples ∙ ap (λ (n : ℕ). packed 24 n c.deref.result.now) channels ∙ ap (λ rows. packed 24 (channels_of held.k) rows) c.deref.ensures.0 in
    let made : Played = record { held = c.unit-taken.new.self; frames = c.self.inside.given + c.len.result; sum = c.add_bytes-self-inside.result; extracted = c.self.inside.extracted + c.len-2.result } in
    subst (λ (x : Played). Took c.args.unit.now x made) c.self.view_is
    (took before c.args.unit.now c.unit-extracted.new.out.items c.pack_unit-packed.new.out.items c.unit-taken.new.self c.unit-taken.new.out.items (c.self.inside.given + c.len.result)
    c.add_bytes-self-inside.result (c.self.inside.extracted + c.len-2.result) g
    (ap (λ (n : ℕ). c.self.inside.given + n) c.len.ensures.value) all
    (c.add_bytes-self-inside.ensures ∙ ap (λ (xs : List ℕ). (c.self.inside.sum + sum xs) % 2 ^ 32) c.deref-2.ensures.0) e.bytes_are
    (ap (λ (n : ℕ). c.self.inside.extracted + n) c.len-2.ensures.value))
