use Rattle.std.proofs.Common.{◌≡◌, ◌+◌, ◌-◌, ℕ, Bool, List, [], length, map, ap, sym, ◌∙◌, Ok, Err, arith}
use Rattle.std.proofs.lemmas.List.{length-drop, length-map}
use Rattle.std.proofs.lemmas.Result.{err_from_is_err_and}
use Rattle.mlp_bits.proofs.BitLists.{length-bits_of}
use Rattle.mlp_bits.specs.Bits.{bits_of}
use Rattle.mlp_bits.specs.Cursor.{Cursor}
use Rattle.mlp_layout.specs.Reading.{Read}
use Rattle.mlp_layout.specs.Combined.{series}
use Rattle.mlp_syntax.specs.declared.segment.Code.{Code}
use Rattle.mlp_residual.specs.declared.frames.ChannelCode.{ChannelCode}
use Rattle.mlp_residual.specs.declared.ahead.Lookup.{Lookup}
use Rattle.mlp_residual.specs.Lookups.{channel_of, most_in}
use Rattle.mlp_residual.specs.Frames.{code_at}
use Rattle.mlp_residual.proofs.frames.read_codes.Goals as goal

-- each channel is looked up
same_count : (lookups : List Lookup) (channels : List ChannelCode) → map channel_of lookups ≡ channels → length lookups ≡ length channels
same_count lookups channels same = sym (length-map lookups channel_of) ∙ ap (λ (cs : List ChannelCode). length cs) same

-- what is looked up is what the channels' codes are
looked_up : (lookups : List Lookup) (channels : List ChannelCode) (bits all : List Bool) (p q : ℕ) (read : Read (List Code)) → map channel_of lookups ≡ channels → bits ≡ all → p ≡ q
    → (series (code_at (map channel_of lookups)) (length lookups) []).read bits p ≡ read → (series (code_at channels) (length channels) []).read all q ≡ read
looked_up lookups channels bits all p q read same here there h =
    let count : length lookups ≡ length channels = same_count lookups channels same in
    rw (← count, ← same, ← here, ← there) h

pub skip-requires : goal.skip-requires
skip-requires c =
    let most = ap most_in c.deref.ensures.0 in
    omega (
      arith,
      most,
      c.requires.lookups.most,
      length-bits_of c.bytes-bytes.result.now,
      ap (λ t. length t) c.bytes-bytes.ensures.value,
      length-drop c.args.r.now.place c.args.r.now.all,
      c.in_ok-end.ensures.behind.1,
      c.place-place.ensures.value,
    )

pub returns-in_err-end : goal.returns-in_err-end
returns-in_err-end c =
    let p = err_from_is_err_and c.from_residual.result c.from_residual.ensures.1 in
    rw (p.1, p.2) (looked_up c.deref.result.now c.args.channels.now (bits_of c.bytes-bytes.result.now) c.args.r.now.all c.place-place.result c.args.r.now.place (Err c.in_err-end.field-0.0)
    (ap (map channel_of) c.deref.ensures.0 ∙ c.requires.lookups.channels_are) c.bytes-bytes.ensures.value c.place-place.ensures.value c.in_err-end.ensures.read)

pub returns : goal.returns
returns c =
    let read = looked_up c.deref.result.now c.args.channels.now (bits_of c.bytes-bytes.result.now) c.args.r.now.all c.place-place.result c.args.r.now.place (Ok (c.codes_near_end.new.codes, c.in_ok-end.end))
    (ap (map channel_of) c.deref.ensures.0 ∙ c.requires.lookups.channels_are) c.bytes-bytes.ensures.value c.place-place.ensures.value c.in_ok-end.ensures.read in
    let far : c.skip.new.self.place ≡ c.args.r.now.place + (c.in_ok-end.end - c.place-place.result) = ap (λ (r : Cursor). r.place) c.skip.ensures in
    let ends : c.in_ok-end.end ≡ c.skip.new.self.place = omega (arith, far, c.in_ok-end.ensures.behind.0, c.place-place.ensures.value) in
    (rw (← ends) read, ap (λ (r : Cursor). r.all) c.skip.ensures, omega (arith, far))

pub codes_near_end-requires-clause-same : goal.codes_near_end-requires-clause-same
codes_near_end-requires-clause-same c = c.requires.same ∙ sym (same_count c.args.lookups.now.channels.items c.args.channels.now c.requires.lookups.channels_are) ∙ sym (ap (λ (ls : List Lookup). length ls) c.deref.ensures.0)
