-- What the session makes of PCM is what is sent of its frames.
use Rattle.std.proofs.Common.{◌≡◌, ℕ, zero, suc, ◌+◌, ◌-◌, ◌<◌, ◌≤◌, ◌++◌, min, Bool, true, false, List, [], ◌∷◌, length, take, drop, Option, None, Some, Result, Ok, Err, ℤ, inl}
use Rattle.std.proofs.Common.{inr, refl, sym, ap, subst, ◌∙◌, arith, length-take, length-drop}
use Rattle.std.specs.Prelude.{◌==◌, ◌&&◌, ◌||◌, nat_le, if◌then◌else◌}
use Rattle.std.proofs.lemmas.Bool.{cases_lt, lt-leb, le-leb, ne_eqb, leb-true}
use Rattle.std.proofs.lemmas.List.{drop-take, nil_from_length}
use Rattle.mlp_syntax.specs.declared.refusal.NoRoom.{NoRoom}
use Rattle.mlp_syntax.specs.declared.refusal.PcmFault.{PcmFault}
use Rattle.mlp_syntax.specs.declared.refusal.PcmFault.TheVariants as fault
use Rattle.mlp_stream.specs.declared.refusal.Refusal.TheVariants as refused
use Rattle.mlp_stream.specs.declared.stop.Stop.{Stop}
use Rattle.mlp_stream.specs.Moves.{Move, Waits, Takes, Refuses}
use Rattle.mlp_stream.specs.Streams.{Outcome, finished, at_end, outcome}
use Rattle.mlp_stream.proofs.Runs.{outcome-takes, outcome-refuses, outcome-waits, outcome-nil}
use Rattle.mlp_fold.specs.declared.profile.Profile.{Profile}
use Rattle.mlp_fold.specs.Profile.{checked}
use Rattle.mlp_encode.specs.Left.{Going, Left}
use Rattle.mlp_encode.specs.Unit.{joined, next_sent, body_of, body_size, unit_sent}
use Rattle.mlp_encode.specs.Sent.{Stream, with_unit, sent}
use Rattle.mlp_fifo.specs.Placed.{placed}
use Rattle.mlp_encoding.specs.Pcm.{frames_in, data_in, is_seen, refusing, complete}
use Rattle.mlp_encoding.specs.Encoding.{Encoding, page, less, part_of, is_last, is_open, fault_in, on_sent, on_fault, sends, unit_step, encode_step, encode_last, encode_count, last_of}
use Rattle.mlp_encoding.specs.Encoded.{end_by}
use Rattle.mlp_encoding.specs.EncodeLaws.{encode_lawful}
use Rattle.mlp_encoding.proofs.EncodeSteps.{parts, step_going, step_unit, LeavesNext, leaves_at}

-- ---- what comes of a run

abbrev pub Comes : Outcome Encoding → Result Unit Stop → List ℕ → Type 0
Comes o end output = (o.end ≡ end) × (o.output ≡ output)

abbrev pub runs : Bool → Encoding → List ℕ → Outcome Encoding
runs ended s bytes = outcome encode_step encode_last ended s bytes

-- what units leave to the next one
pub record At (p : Profile) (n : ℕ) (left : Left) : Type 0 where
  pub g : Going
  pub left_is : left ≡ Ok g
  pub profile : g.profile ≡ p
  pub units : g.units ≡ n

abbrev pub sent_with : Bool → List (List (List ℤ)) → Result (List ℕ × Left) NoRoom → Stream
sent_with last more r =
    elim r [ Ok x ↦ with_unit x.0 (sent last x.1 more) | Err e ↦ record { units = []; end = Err e } ]

abbrev pub Comes_of : Outcome Encoding → Result Unit Stop → Stream → Type 0
Comes_of o end s = Comes o (end_by end s.end) (joined s.units)

-- ---- one unit

pub send_comes : (ended : Bool) (left : Left) (to_come : Option ℕ) (moves k : ℕ) (bytes : List ℕ) (last : Bool) (f : List (List ℤ)) (more : List (List (List ℤ))) (end : Result Unit Stop) (r : Result (List ℕ × Left) NoRoom)
    → next_sent left f (last && (length more == 0)) ≡ r → encode_step (parts left to_come moves) ended bytes ≡ on_sent (parts left to_come moves) k r → 0 < length bytes
    → ((x : List ℕ × Left) → r ≡ Ok x → Comes_of (runs ended (parts x.1 (less k to_come) (moves + 1)) (drop k bytes)) end (sent last x.1 more))
    → Comes_of (runs ended (parts left to_come moves) bytes) end (sent last left (f ∷ more))
send_comes ended left to_come moves k bytes last f more end (Ok x) e step some go =
    let o = outcome-takes encode_step encode_last encode_count encode_lawful ended (parts left to_come moves) bytes k x.0 (parts x.1 (less k to_come) (moves + 1)) step some in
    let st : sent last left (f ∷ more) ≡ with_unit x.0 (sent last x.1 more) = ap (sent_with last more) e in
    let h = go x refl in (
      ap (λ (q : Outcome Encoding). q.end) o ∙ h.0 ∙ ap (λ (q : Stream). end_by end q.end) (sym st),
      ap (λ (q : Outcome Encoding). q.output) o ∙ ap (λ (ys : List ℕ). x.0 ++ ys) h.1 ∙ ap (λ (q : Stream). joined q.units) (sym st),
    )
send_comes ended left to_come moves k bytes last f more end (Err e) is step some go =
    let o = outcome-refuses encode_step encode_last encode_count encode_lawful ended (parts left to_come moves) bytes (refused.NoRoom e) step some in
    let st : sent last left (f ∷ more) ≡ sent_with last more (Err e) = ap (sent_with last more) is in (
      ap (λ (q : Outcome Encoding). q.end) o ∙ ap (λ (q : Stream). end_by end q.end) (sym st),
      ap (λ (q : Outcome Encoding). q.output) o ∙ ap (λ (q : Stream). joined q.units) (sym st),
    )

pub refuse_comes : (ended : Bool) (s : Encoding) (bytes : List ℕ) (f : PcmFault) → encode_step s ended bytes ≡ Refuses (refused.Pcm f) → 0 < length bytes → Comes (runs ended s bytes) (refusing f) []
refuse_comes ended s bytes f step some =
    let o = outcome-refuses encode_step encode_last encode_count encode_lawful ended s bytes (refused.Pcm f) step some in
    (ap (λ (q : Outcome Encoding). q.end) o, ap (λ (q : Outcome Encoding). q.output) o)

-- what a unit leaves
pub next_at : (p : Profile) (n : ℕ) (left : Left) → At p n left → (f : List (List ℤ)) (last : Bool) (x : List ℕ × Left) → next_sent left f last ≡ Ok x → At p (n + 1) x.1
next_at p n left at f last x e =
    let u = unit_sent at.g f last in
    let b = body_of at.g u in
    let sent_is : next_sent (Ok at.g) f last ≡ Ok x = ap (λ (l : Left). next_sent l f last) (sym at.left_is) ∙ e in
    let h = subst (LeavesNext at.g.profile at.g.units) sent_is (leaves_at at.g f u b (placed at.g.fifo (body_size b))) in
    record { g = h.0; left_is = h.1; profile = h.2 ∙ at.profile; units = h.3 ∙ ap (λ (k : ℕ). k + 1) at.units }

-- ---- the step of a session that goes on

module _ (p : Profile) (ok : checked p ≡ Ok tt) (n : ℕ) (left : Left) (at : At p n left) (to_come : Option ℕ) (moves : ℕ) (more : to_come ≡ Some 0 → ⊥) (ended : Bool) (bytes : List ℕ) (some : 0 < length bytes) where
  abbrev s : Encoding
  s = parts left to_come moves

  abbrev pcm : List ℕ
  pcm = data_in to_come bytes

  abbrev seen : Bool
  seen = is_seen to_come ended bytes

  abbrev if_open : Bool → Move Encoding
  if_open b = if b then Waits else sends s at.g (part_of at.g.profile pcm) (is_last at.g.profile pcm)

  step_is : encode_step s ended bytes ≡ unit_step s at.g seen pcm
  step_is = step_going s at.g ended bytes some at.left_is (ap checked at.profile ∙ ok) ∙ step_unit s at.g to_come ended bytes more

  pub step_open : is_open p seen pcm ≡ true → encode_step s ended bytes ≡ Waits
  step_open e = step_is ∙ ap if_open (ap (λ (q : Profile). is_open q seen pcm) at.profile ∙ e)

  pub step_closed : (part : List ℕ) (last : Bool) (o : Option PcmFault) → is_open p seen pcm ≡ false → part_of p pcm ≡ part → is_last p pcm ≡ last → fault_in p n part last ≡ o
      → encode_step s ended bytes ≡ on_fault s at.g part last o
  step_closed part last o e part_is last_is fault_is =
      step_is ∙ ap if_open (ap (λ (q : Profile). is_open q seen pcm) at.profile ∙ e)
      ∙ ap (λ (q : Profile). sends s at.g (part_of q pcm) (is_last q pcm)) at.profile
      ∙ ap (λ (xs : List ℕ). sends s at.g xs (is_last p pcm)) part_is ∙ ap (sends s at.g part) last_is
      ∙ ap (on_fault s at.g part last) (ap (λ (q : Profile). fault_in q at.g.units part last) at.profile ∙ ap (λ (k : ℕ). fault_in p k part last) at.units ∙ fault_is)

  pub step_sends : (part : List ℕ) (last : Bool) → is_open p seen pcm ≡ false → part_of p pcm ≡ part → is_last p pcm ≡ last → fault_in p n part last ≡ None
      → encode_step s ended bytes ≡ on_sent s (length part) (next_sent left (frames_in p part) last)
  step_sends part last e part_is last_is fault_is =
      step_closed part last None e part_is last_is fault_is
      ∙ ap (λ (q : Profile). on_sent s (length part) (next_sent (Ok at.g) (frames_in q part) last)) at.profile
      ∙ ap (λ (l : Left). on_sent s (length part) (next_sent l (frames_in p part) last)) (sym at.left_is)

-- ---- behind the data

abbrev drops : Encoding → Bool → List ℕ → Move Encoding
drops s go bytes = if go then Takes (min page (length bytes)) [] (record s { moves = s.moves + 1 }) else Waits

module _ (p : Profile) (ok : checked p ≡ Ok tt) (n : ℕ) (left : Left) (at : At p (n + 1) left) where
  last_is : encode_last (parts left (Some 0) 0) ≡ Ok []
  last_is =
      let some : (at.g.units == 0) ≡ false = ne_eqb at.g.units 0 (λ z. omega (arith, z, at.units)) in
      ap last_of at.left_is ∙ ap (λ (b : Bool). let r : Result (List ℕ) _ = if b then Err (refused.Pcm fault.Empty) else Ok [] in r) some

  at_the_end : (ended : Bool) (to_come : Option ℕ) (moves : ℕ) → Comes (at_end encode_step encode_last ended (parts left to_come moves)) (complete ended) []
  at_the_end true to_come moves = let e = ap (finished (parts left to_come moves)) last_is in (ap (λ (q : Outcome Encoding). q.end) e, ap (λ (q : Outcome Encoding). q.output) e)
  at_the_end false to_come moves = (refl, refl)

  none_left : (ended : Bool) (to_come : Option ℕ) (moves : ℕ) → Comes (runs ended (parts left to_come moves) []) (complete ended) []
  none_left ended to_come moves =
      let o = outcome-nil encode_step encode_last encode_count encode_lawful ended (parts left to_come moves) in
      let h = at_the_end ended to_come moves in
      (ap (λ (q : Outcome Encoding). q.end) o ∙ h.0, ap (λ (q : Outcome Encoding). q.output) o ∙ h.1)

  drop_step : (ended : Bool) (moves : ℕ) (bytes : List ℕ) → 0 < length bytes → encode_step (parts left (Some 0) moves) ended bytes ≡ drops (parts left (Some 0) moves) (ended || nat_le page (length bytes)) bytes
  drop_step ended moves bytes some = step_going (parts left (Some 0) moves) at.g ended bytes some at.left_is (ap checked at.profile ∙ ok)

  left_false : (x y : Bool) → (x || y) ≡ false → x ≡ false
  left_false true y h = absurd cc
  left_false false y h = refl

  on_page : (ended : Bool) (moves : ℕ) (bytes : List ℕ) → 0 < length bytes → (Comes (runs ended (parts left (Some 0) (moves + 1)) (drop (min page (length bytes)) bytes)) (complete ended) [])
      → (go : Bool) → (ended || nat_le page (length bytes)) ≡ go → Comes (runs ended (parts left (Some 0) moves) bytes) (complete ended) []
  on_page ended moves bytes some h true e =
      let step = drop_step ended moves bytes some ∙ ap (λ (g : Bool). drops (parts left (Some 0) moves) g bytes) e in
      let o = outcome-takes encode_step encode_last encode_count encode_lawful ended (parts left (Some 0) moves) bytes (min page (length bytes)) [] (parts left (Some 0) (moves + 1)) step some in
      (ap (λ (q : Outcome Encoding). q.end) o ∙ h.0, ap (λ (q : Outcome Encoding). q.output) o ∙ h.1)
  on_page ended moves bytes some h false e =
      let step = drop_step ended moves bytes some ∙ ap (λ (g : Bool). drops (parts left (Some 0) moves) g bytes) e in
      let o = outcome-waits encode_step encode_last encode_count encode_lawful ended (parts left (Some 0) moves) bytes step some in
      (ap (λ (q : Outcome Encoding). q.end) o ∙ ap complete (sym (left_false ended (nat_le page (length bytes)) e)), ap (λ (q : Outcome Encoding). q.output) o)

  pub drained : (turns : ℕ) (ended : Bool) (moves : ℕ) (bytes : List ℕ) → length bytes < turns → Comes (runs ended (parts left (Some 0) moves) bytes) (complete ended) []
  drained zero ended moves bytes few = absurd (omega arith)
  drained (suc turns) ended moves [] few = none_left ended (Some 0) moves
  drained (suc turns) ended moves (b ∷ bytes) few =
      on_page ended moves (b ∷ bytes) (omega arith) (drained turns ended (moves + 1) (drop (min page (length (b ∷ bytes))) (b ∷ bytes)) (omega (arith, few, length-drop (min page (length (b ∷ bytes))) (b ∷ bytes))))
      (ended || nat_le page (length (b ∷ bytes))) refl

  -- nothing of the data is left
  pub finished_by : (ended : Bool) (to_come : Option ℕ) (moves : ℕ) (bytes : List ℕ) → data_in to_come bytes ≡ [] → is_seen to_come ended bytes ≡ true → Comes (runs ended (parts left to_come moves) bytes) (complete ended) []
  finished_by ended None moves bytes nil over = subst (λ (xs : List ℕ). Comes (runs ended (parts left None moves) xs) (complete ended) []) (sym nil) (none_left ended None moves)
  finished_by ended (Some zero) moves bytes nil over = drained (suc (length bytes)) ended moves bytes (omega arith)
  finished_by ended (Some (suc m)) moves bytes nil over =
      let none : bytes ≡ [] = nil_from_length bytes (omega (arith, ap length nil, length-take (suc m) bytes)) in
      subst (λ (xs : List ℕ). Comes (runs ended (parts left (Some (suc m)) moves) xs) (complete ended) []) (sym none) (none_left ended (Some (suc m)) moves)

-- ---- the data behind a unit

pub data_less : (o : Option ℕ) (k : ℕ) (bytes : List ℕ) → k ≤ length (data_in o bytes) → data_in (less k o) (drop k bytes) ≡ drop k (data_in o bytes)
data_less None k bytes le = refl
data_less (Some m) k bytes le =
    let sum : m ≡ k + (m - k) = omega (arith, le, length-take m bytes) in
    sym (ap (λ (j : ℕ). drop k (take j bytes)) sum ∙ drop-take k (m - k) bytes)

pub seen_less : (o : Option ℕ) (k : ℕ) (ended : Bool) (bytes : List ℕ) → k ≤ length (data_in o bytes) → is_seen (less k o) ended (drop k bytes) ≡ is_seen o ended bytes
seen_less None k ended bytes le = refl
seen_less (Some m) k ended bytes le = elim (cases_lt (length bytes) m) [
  | inl lt ↦ ap (λ (b : Bool). ended || b) (lt-leb (m - k) (length (drop k bytes)) (omega (arith, lt, le, length-take m bytes, length-drop k bytes)) ∙ sym (lt-leb m (length bytes) lt))
  | inr ge ↦ ap (λ (b : Bool). ended || b) (le-leb (m - k) (length (drop k bytes)) (omega (arith, ge, le, length-take m bytes, length-drop k bytes)) ∙ sym (le-leb m (length bytes) ge))
]

pub more_less : (o : Option ℕ) (k : ℕ) (bytes : List ℕ) → (o ≡ Some 0 → ⊥) → k < length (data_in o bytes) → less k o ≡ Some 0 → ⊥
more_less None k bytes more lt e = absurd cc
more_less (Some m) k bytes more lt e = let z : m - k ≡ 0 = some_is e in omega (arith, z, lt, length-take m bytes)
  where
    some_is : {a : ℕ} → Some a ≡ Some 0 → a ≡ 0
    some_is h = cc

pub open_ended : (o : Option ℕ) (ended : Bool) (bytes : List ℕ) → is_seen o ended bytes ≡ false → ended ≡ false
open_ended None ended bytes e = e
open_ended (Some m) true bytes e = absurd cc
open_ended (Some m) false bytes e = refl

pub bytes_there : (o : Option ℕ) (bytes : List ℕ) → 0 < length (data_in o bytes) → 0 < length bytes
bytes_there None bytes lt = lt
bytes_there (Some m) bytes lt = omega (arith, lt, length-take m bytes)

pub no_bytes : (o : Option ℕ) (bytes : List ℕ) → (o ≡ Some 0 → ⊥) → data_in o bytes ≡ [] → bytes ≡ []
no_bytes None bytes more e = e
no_bytes (Some zero) bytes more e = absurd (more refl)
no_bytes (Some (suc m)) bytes more e = nil_from_length bytes (omega (arith, ap length e, length-take (suc m) bytes))

pub seen_nil : (o : Option ℕ) (ended : Bool) → (o ≡ Some 0 → ⊥) → is_seen o ended [] ≡ true → ended ≡ true
seen_nil None ended more e = e
seen_nil (Some zero) ended more e = absurd (more refl)
seen_nil (Some (suc m)) true more e = refl
seen_nil (Some (suc m)) false more e = absurd (let le : suc m ≤ 0 = leb-true (suc m) 0 e in omega (arith, le))
