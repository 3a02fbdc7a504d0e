use Rattle.std.proofs.Common.{◌≡◌, true, ◌+◌, ap, sym, ◌∙◌, arith}
use Rattle.std.proofs.lemmas.Grind.{common_steps}
use Rattle.std.proofs.lemmas.List.Elements.{All-push}
use Rattle.mlp_residual.specs.declared.ahead.Lookup.{Lookup}
use Rattle.mlp_books.specs.Books.{longest_in}
use Rattle.mlp_residual.specs.declared.frames.ChannelCode.{ChannelCode}
use Rattle.mlp_residual.specs.Lookups.{most_of}
use Rattle.mlp_residual.proofs.AheadLaws.{planned_more, planned_all, most_more}
use Rattle.mlp_residual.proofs.ahead.lookups_of.Goals as goal
use Rattle.mlp_residual.proofs.ahead.lookups_of.Goals.{then-reload, else-reload}

pub loop-channel-preserved : goal.loop-channel-preserved
loop-channel-preserved c =
    let i = c.loop-channel.invariant in
    let more = planned_more c.loop-channel.left c.left_behind-left.result c.loop-channel.lookups.items c.lookup_of-lookup.result i.planned c.lookup_of-lookup.ensures.enough c.left_behind-left.ensures.value in
    let one : c.most_of-most.result ≡ most_of c.lookup_of-lookup.result = c.most_of-most.ensures.value ∙ sym (ap (λ (k : ChannelCode). longest_in k.book + k.low) c.lookup_of-lookup.ensures.channel) in
    let old : c.loop-channel.reload ≡ true → c.if-reload.reload ≡ true = λ h. elim c.if-reload.branch [ then-reload w ↦ w.reload-is ∙ h | else-reload w ↦ absurd (let is = w.if-reload.false in cc) ] in
    let new : c.lookup_of-lookup.result.reload ≡ true → c.if-reload.reload ≡ true = λ h. elim c.if-reload.branch [ then-reload w ↦ w.reload-is ∙ w.if-reload.true | else-reload w ↦ w.reload-is ∙ h ] in
    record {
      channels = grind (arith, common_steps);
      looked_up = grind (arith, common_steps);
      count = grind (arith, common_steps);
      few = c.left_behind-left.ensures.few;
      most = rw (c.push.ensures.items, most_more c.loop-channel.lookups.items c.lookup_of-lookup.result) (omega (arith, i.most, one));
      small = omega (arith, i.small, c.most_of-most.ensures.most);
      others = rw c.push.ensures.items (All-push (λ (k : Lookup). k.reload ≡ true → c.if-reload.reload ≡ true) c.loop-channel.lookups.items c.lookup_of-lookup.result (λ k d lt h. old (i.others k d lt h)) new);
      planned = λ ls h. rw c.push.ensures.items (more ls h);
    }

pub returns : goal.returns
returns c =
    let i = c.loop-channel.invariant in
    let e = c.room_of.ensures in
    record {
      channels_are = grind (arith, common_steps);
      looked_up = i.looked_up;
      planned = planned_all c.loop-channel.left c.loop-channel.lookups.items i.planned;
      most = i.most;
      enough = record {
        codes = omega (arith, i.most, e.codes);
        first = e.first;
        others = λ k d lt h. let most = e.others (i.others k d lt h) in omega (arith, i.most, most);
      };
      small = e.small;
    }
