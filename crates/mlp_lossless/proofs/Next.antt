-- One more unit behind those that were sent.
use Rattle.std.proofs.Common.{◌≡◌, ℕ, ◌+◌, ◌<◌, ℤ, Bool, true, false, List, [], ◌∷◌, ◌++◌, length, Result, Ok, Err, refl, sym, ap, ◌∙◌, subst, arith}
use Rattle.std.specs.Prelude.{All, ◌==◌, ◌&&◌}
use Rattle.std.proofs.lemmas.Bool.{ne_eqb}
use Rattle.std.proofs.lemmas.List.Elements.{All-head, All-tail, All-push}
use Rattle.mlp_syntax.specs.declared.refusal.NoRoom.{NoRoom}
use Rattle.mlp_contents.specs.Units.{Left as Decoded}
use Rattle.mlp_fold.specs.declared.profile.Profile.{Profile}
use Rattle.mlp_fold.specs.Substreams.{substreams_of}
use Rattle.mlp_encode.specs.Left.{Going, Left, going}
use Rattle.mlp_encode.specs.Unit.{AreNext, unit_sent, behind, next_sent}
use Rattle.mlp_encode.specs.Sent.{Stream, with_unit, sent}
use Rattle.mlp_lossless.specs.Following.{Follows}
use Rattle.mlp_lossless.specs.Next.{HasSent, IsFollowed, EachFollowed, EachAdded}
use Rattle.mlp_lossless.proofs.Steps.{CanSendUnit, unit, same_sync, next, spelled, frames_given, follows_on}
use Rattle.mlp_lossless.proofs.Streams.{WasSent, was_sent}
use Rattle.mlp_lossless.proofs.Owed.{IsKept, can_send, kept_on, kept_start}

abbrev pub with_units : List (List ℕ) → Stream → Stream
with_units units s = record { units = units ++ s.units; end = s.end }

-- what comes of a unit and those behind it
abbrev on_sent : Bool → List (List (List ℤ)) → Result (List ℕ × Left) NoRoom → Stream
on_sent ended more (Ok x) = with_unit x.0 (sent ended x.1 more)
on_sent ended more (Err e) = record { units = []; end = Err e }

abbrev refused_here : NoRoom → Stream
refused_here e = record { units = []; end = Err e }

abbrev end_of : Result Left NoRoom → Result Left NoRoom
end_of r = r

not_ok : (e : NoRoom) (left : Left) → end_of (Err e) ≡ end_of (Ok left) → ⊥
not_ok e left h = cc

sent_first : (ended : Bool) (left : Left) (frames : List (List ℤ)) (more : List (List (List ℤ))) → sent ended left (frames ∷ more) ≡ on_sent ended more (next_sent left frames (ended && (length more == 0)))
sent_first ended left frames more = pick (next_sent left frames (ended && (length more == 0)))
  where
    pick : (r : Result (List ℕ × Left) NoRoom) → elim r as (λ r. Stream) [ Ok x ↦ with_unit x.0 (sent ended x.1 more) | Err e ↦ record { units = []; end = Err e } ] ≡ on_sent ended more r
    pick (Ok x) = refl
    pick (Err e) = refl

-- units that aren't the last, and behind them more
pub sent_more : (ended : Bool) (xs ys : List (List (List ℤ))) (left after : Left) (units : List (List ℕ)) → 0 < length ys → sent false left xs ≡ record { units = units; end = Ok after }
    → sent ended left (xs ++ ys) ≡ with_units units (sent ended after ys)
sent_more ended [] ys left after units some h =
    let none : [] ≡ units = ap (λ (s : Stream). s.units) h in
    let same : left ≡ after = (let z : Ok left ≡ Ok after = ap (λ (s : Stream). s.end) h in cc) in
    ap (λ (l : Left). sent ended l ys) same ∙ ap (λ (us : List (List ℕ)). with_units us (sent ended after ys)) none
sent_more ended (x ∷ xs) ys left after units some h = pick (λ l rest. sent_more ended xs ys l after rest some) (next_sent left x false) refl
  where
    going_on : (ended && (length (xs ++ ys) == 0)) ≡ false
    going_on = not_last (xs ++ ys) ended (longer xs)
      where
        longer : (xs : List (List (List ℤ))) → 0 < length (xs ++ ys)
        longer [] = some
        longer (x ∷ xs) = omega arith

        not_last : (zs : List (List (List ℤ))) (b : Bool) → 0 < length zs → (b && (length zs == 0)) ≡ false
        not_last zs true lt = ne_eqb (length zs) 0 (λ e. absurd (omega (arith, lt, e)))
        not_last zs false lt = refl

    pick : ((l : Left) (rest : List (List ℕ)) → sent false l xs ≡ record { units = rest; end = Ok after } → sent ended l (xs ++ ys) ≡ with_units rest (sent ended after ys))
        → (r : Result (List ℕ × Left) NoRoom) → next_sent left x false ≡ r → sent ended left (x ∷ xs ++ ys) ≡ with_units units (sent ended after ys)
    pick on (Err e) is =
        let z : refused_here e ≡ record { units = units; end = Ok after } = sym (ap (on_sent false xs) is) ∙ sym (sent_first false left x xs) ∙ h in
        absurd (not_ok e after (ap (λ (s : Stream). s.end) z))
    pick on (Ok y) is =
        let z : with_unit y.0 (sent false y.1 xs) ≡ record { units = units; end = Ok after } = sym (ap (on_sent false xs) is) ∙ sym (sent_first false left x xs) ∙ h in
        let rest : List (List ℕ) = (sent false y.1 xs).units in
        let units_are : y.0 ∷ rest ≡ units = ap (λ (s : Stream). s.units) z in
        let end : (sent false y.1 xs).end ≡ Ok after = ap (λ (s : Stream). s.end) z in
        let later = on y.1 rest (ap (λ (r : Result Left NoRoom). let s : Stream = record { units = rest; end = r } in s) end) in
        sent_first ended left x (xs ++ ys)
        ∙ ap (λ (b : Bool). on_sent ended (xs ++ ys) (next_sent left x b)) going_on
        ∙ ap (on_sent ended (xs ++ ys)) is
        ∙ ap (with_unit y.0) later
        ∙ ap (λ (us : List (List ℕ)). with_units us (sent ended after ys)) units_are

-- what is kept behind units
pub kept_behind : (p : Profile) (xs : List (List (List ℤ))) (e after : Going) (units : List (List ℕ)) → e.profile ≡ p → IsKept e → All (λ f. AreNext p f false) xs
    → sent false (Ok e) xs ≡ record { units = units; end = Ok (Ok after) } → IsKept after × (after.profile ≡ p) × (after.units ≡ e.units + length xs)
kept_behind p [] e after units same h full eq =
    let z : Ok (Ok e) ≡ Ok (Ok after) = ap (λ (s : Stream). s.end) eq in
    let w : e ≡ after = cc in
    subst (λ (g : Going). IsKept g × (g.profile ≡ p) × (g.units ≡ e.units + 0)) w (h, same, omega arith)
kept_behind p (x ∷ xs) e after units same h full eq = pick (λ g rest. kept_behind p xs g after rest) (next_sent (Ok e) x false) refl
  where
    pick : ((g : Going) (rest : List (List ℕ)) → g.profile ≡ p → IsKept g → All (λ f. AreNext p f false) xs → sent false (Ok g) xs ≡ record { units = rest; end = Ok (Ok after) }
        → IsKept after × (after.profile ≡ p) × (after.units ≡ g.units + length xs))
        → (r : Result (List ℕ × Left) NoRoom) → next_sent (Ok e) x false ≡ r → IsKept after × (after.profile ≡ p) × (after.units ≡ e.units + length (x ∷ xs))
    pick on (Err d) is =
        let z : refused_here d ≡ record { units = units; end = Ok (Ok after) } = sym (ap (on_sent false xs) is) ∙ sym (sent_first false (Ok e) x xs) ∙ eq in
        absurd (not_ok d (Ok after) (ap (λ (s : Stream). s.end) z))
    pick on (Ok y) is =
        let w = was_sent e x false y is in
        let z : with_unit y.0 (sent false y.1 xs) ≡ record { units = units; end = Ok (Ok after) } = sym (ap (on_sent false xs) is) ∙ sym (sent_first false (Ok e) x xs) ∙ eq in
        let rest : List (List ℕ) = (sent false y.1 xs).units in
        let end : (sent false y.1 xs).end ≡ Ok (Ok after) = ap (λ (s : Stream). s.end) z in
        let later : sent false y.1 xs ≡ record { units = rest; end = Ok (Ok after) } = ap (λ (r : Result Left NoRoom). let s : Stream = record { units = rest; end = r } in s) end in
        let next_is = subst (λ (p : Profile). AreNext p x false) (sym same) (All-head (λ f. AreNext p f false) x xs full) in
        let e' : Going = behind e x (unit_sent e x false) w.fifo in
        let k = on e' rest same (kept_on e x false h next_is w.fifo) (All-tail (λ f. AreNext p f false) x xs full) (ap (λ (l : Left). sent false l xs) (sym w.left_is) ∙ later) in
        (k.0, k.1, omega (arith, k.2))

pub kept_sent : (p : Profile) (frames : List (List (List ℤ))) (units : List (List ℕ)) (e : Going) → HasSent p frames units e → IsKept e × (e.profile ≡ p) × (e.units ≡ length frames)
kept_sent p frames units e h =
    let k = kept_behind p frames (going p) e units refl (kept_start p h.profile) h.full h.sent_is in
    (k.0, k.1, omega (arith, k.2))

-- ---- the next unit

pub each_followed : EachFollowed
each_followed p before units e j d frames last x h some follows next_is sent_is =
    let k = kept_sent p before units e h in
    let there : j < substreams_of e.profile.channels = subst (λ (p : Profile). j < substreams_of p.channels) (sym k.1) some in
    let can : CanSendUnit e frames last = can_send e frames last k.0 (subst (λ (p : Profile). AreNext p frames last) (sym k.1) next_is) in
    let w = was_sent e frames last x sent_is in
    let f : IsFollowed e.profile j d frames last x.0 x.1 = subst (λ (b : List ℕ). IsFollowed e.profile j d frames last b x.1) (sym w.bytes_are) (record {
      unit = unit j e d frames last w.time can follows there;
      next = next j e d frames last w.time can follows there;
      spelled = spelled j e d frames last w.time can follows there;
      sync = same_sync j e d frames last w.time can follows there;
      frames_are = frames_given j e d frames last w.time can follows there;
      e = behind e frames (unit_sent e frames last) w.fifo;
      left_is = w.left_is;
      follows = follows_on j e d frames last w.time can follows there w.fifo;
    }) in
    subst (λ (p : Profile). IsFollowed p j d frames last x.0 x.1) k.1 f

pub each_added : EachAdded
each_added p before units e frames bytes next h next_is sent_is = record {
  profile = h.profile;
  full = All-push (λ f. AreNext p f false) before frames h.full next_is;
  sent_is = sent_more false before (frames ∷ []) (Ok (going p)) (Ok e) units (omega arith) h.sent_is
      ∙ ap (λ (s : Stream). with_units units s) (sent_first false (Ok e) frames [] ∙ ap (on_sent false []) sent_is);
}

-- the last unit ends the stream
pub sent_last : (p : Profile) (before : List (List (List ℤ))) (units : List (List ℕ)) (e : Going) (frames : List (List ℤ)) (bytes : List ℕ) (left : Left) → HasSent p before units e → next_sent (Ok e) frames true ≡ Ok (bytes, left)
    → sent true (Ok (going p)) (before ++ frames ∷ []) ≡ record { units = units ++ bytes ∷ []; end = Ok left }
sent_last p before units e frames bytes left h is =
    sent_more true before (frames ∷ []) (Ok (going p)) (Ok e) units (omega arith) h.sent_is
    ∙ ap (λ (s : Stream). with_units units s) (sent_first true (Ok e) frames [] ∙ ap (on_sent true []) is)

-- a unit without a place ends it, whatever stands behind
pub sent_refused : (p : Profile) (before more : List (List (List ℤ))) (units : List (List ℕ)) (e : Going) (frames : List (List ℤ)) (room : NoRoom) → HasSent p before units e → next_sent (Ok e) frames (length more == 0) ≡ Err room
    → (sent true (Ok (going p)) (before ++ frames ∷ more)).end ≡ Err room
sent_refused p before more units e frames room h is =
    ap (λ (s : Stream). s.end)
    (sent_more true before (frames ∷ more) (Ok (going p)) (Ok e) units (omega arith) h.sent_is
    ∙ ap (λ (s : Stream). with_units units s) (sent_first true (Ok e) frames more ∙ ap (on_sent true more) is))
