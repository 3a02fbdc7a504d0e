use Rattle.std.proofs.Common.{◌≡◌, ◌∙◌, List, ℤ, Option, Ok, sym, ap, subst}
use Rattle.mlp_syntax.specs.declared.refusal.NoRoom.{NoRoom}
use Rattle.mlp_encode.specs.Unit.{AreNext}
use Rattle.mlp_encode.specs.Encoding.{going_of, left_of}
use Rattle.mlp_encode.proofs.encoder.Encoder.unit.Goals as goal

pub send_next-requires-clause-frames : goal.send_next-requires-clause-frames
send_next-requires-clause-frames c =
    let x = c.self.inside.progress in
    let here : c.args.self.now ≡ Ok (going_of x) = sym c.self.view_is ∙ ap (λ (o : Option NoRoom). left_of o x) c.in_default.is in
    subst (λ (rows : List (List ℤ)). AreNext x.profile rows c.args.last) (sym c.deref.ensures.0) (c.requires.frames (going_of x) here)
