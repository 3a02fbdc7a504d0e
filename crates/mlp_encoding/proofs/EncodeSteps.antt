-- What the session does with the next bytes, by its parts.
use Rattle.std.proofs.Common.{◌≡◌, ◌↔◌, ℕ, zero, suc, ◌+◌, ◌<◌, ◌≤◌, min, Bool, true, false, eqb, ltb, leb, get_or, length-take, IsTrue, List, [], ◌∷◌, length, take, Option, None}
use Rattle.std.proofs.Common.{Some, Result, Ok, Err, IfSome, ℤ, inl, inr, refl, sym, ap, subst, ◌∙◌, arith}
use Rattle.std.specs.Option.{option_eq}
use Rattle.std.specs.Prelude.{All, is_some, ◌⊎◌, if◌then◌else◌}
use Rattle.std.proofs.lemmas.Bool.{cases_lt, lt-ltb, lt-leb, le-leb, ltb-true, leb-false, eqb-true, both_ways}
use Rattle.std.proofs.lemmas.List.{take_all, length-take-le, get_or_default}
use Rattle.std.proofs.lemmas.List.Elements.{All-take}
use Rattle.mlp_syntax.specs.declared.refusal.NoRoom.{NoRoom}
use Rattle.mlp_syntax.specs.declared.refusal.PcmFault.{PcmFault}
use Rattle.mlp_stream.specs.declared.refusal.Refusal.TheVariants as refused
use Rattle.mlp_stream.specs.Moves.{Move, Waits, Takes, Refuses}
use Rattle.mlp_fifo.specs.LeftFifo.{LeftFifo}
use Rattle.mlp_fold.specs.declared.profile.Profile.{Profile}
use Rattle.mlp_fold.specs.Profile.{checked}
use Rattle.mlp_encode.specs.Left.{Going, Left}
use Rattle.mlp_encode.specs.Unit.{SentUnit, Body, sent_at, next_sent, AreNext}
use Rattle.mlp_encode.specs.Encoding.{answered}
use Rattle.mlp_encoding.specs.Pcm.{full_size, frames_in, data_in, is_seen}
use Rattle.mlp_encoding.specs.Encoding.{Encoding, page, less, part_of, is_last, is_open, fault_in, on_sent, on_fault, sends, unit_step, data_step, on_profile, on_left, encode_step, IsEncode}
use Rattle.mlp_encoding.specs.Sizes.{sizes}
use Rattle.mlp_encoding.proofs.Parts.{next_frames}

abbrev pub parts : Left → Option ℕ → ℕ → Encoding
parts left to_come moves = record { left = left; to_come = to_come; moves = moves }

-- ---- a step by what is left

step_at : (s : Encoding) (ended : Bool) (next : List ℕ) → 0 < length next → encode_step s ended next ≡ on_left s s.left ended next
unfolding encode_step
step_at s ended [] some = absurd (omega (arith, some))
step_at s ended (b ∷ next) some = refl

pub step_refused : (s : Encoding) (ended : Bool) (next : List ℕ) (e : NoRoom) → 0 < length next → s.left ≡ Err e → encode_step s ended next ≡ Refuses (refused.NoRoom e)
step_refused s ended next e some h = step_at s ended next some ∙ ap (λ (l : Left). on_left s l ended next) h

pub step_going : (s : Encoding) (g : Going) (ended : Bool) (next : List ℕ) → 0 < length next → s.left ≡ Ok g → checked g.profile ≡ Ok tt → encode_step s ended next ≡ data_step s g s.to_come ended next
step_going s g ended next some h ok =
    step_at s ended next some ∙ ap (λ (l : Left). on_left s l ended next) h ∙ ap (λ r. on_profile s g r ended next) ok

pub step_unit : (s : Encoding) (g : Going) (o : Option ℕ) (ended : Bool) (next : List ℕ) → (o ≡ Some 0 → ⊥) → data_step s g o ended next ≡ unit_step s g (is_seen o ended next) (data_in o next)
step_unit s g None ended next more = refl
step_unit s g (Some zero) ended next more = absurd (more refl)
step_unit s g (Some (suc n)) ended next more = refl

seen_at_end : (o : Option ℕ) (next : List ℕ) → is_seen o true next ≡ true
seen_at_end None next = refl
seen_at_end (Some n) next = refl

-- ---- of a session of these parts

pub passed_by : (left : Left) (to_come : Option ℕ) (moves : ℕ) (profile : Profile) (units : ℕ) (refusal : Option NoRoom) (n : ℕ) (next : List ℕ) → IsEncode profile units moves refusal left
    → refusal ≡ None → to_come ≡ Some 0 → 0 < length next → n ≡ min (length next) 4096
    → (s : Encoding) → parts left to_come moves ≡ s → encode_step s true next ≡ Takes n [] (parts left to_come (moves + 1))
passed_by left to_come moves profile units refusal n next is none done some size s e =
    let h = is.going none in
    let t = parts left to_come moves in
    let ok : checked h.0.profile ≡ Ok tt = ap checked h.2 ∙ is.passes in
    let same : min page (length next) ≡ n = omega (arith, size) in
    subst (λ (x : Encoding). encode_step x true next ≡ Takes n [] (parts left to_come (moves + 1))) e
    (step_going t h.0 true next some h.1 ok ∙ ap (λ (o : Option ℕ). data_step t h.0 o true next) done ∙ ap (λ (k : ℕ). Takes k [] (parts left to_come (moves + 1))) same)

front_is : (n : ℕ) (xs : List ℕ) → take (min n (length xs)) xs ≡ take n xs
front_is n xs = elim (cases_lt n (length xs)) [
  | inl lt ↦ ap (λ (k : ℕ). take k xs) (let k : min n (length xs) ≡ n = omega (arith, lt) in k)
  | inr ge ↦ ap (λ (k : ℕ). take k xs) (let k : min n (length xs) ≡ length xs = omega (arith, ge) in k) ∙ take_all (length xs) xs (omega arith) ∙ sym (take_all n xs ge)
]

-- the next unit, as the code has its bytes
module _ (left : Left) (to_come : Option ℕ) (moves : ℕ) (profile : Profile) (units : ℕ) (refusal : Option NoRoom) (is : IsEncode profile units moves refusal left) (none : refusal ≡ None)
    (next pcm : List ℕ) (some : 0 < length next) (full m : ℕ) (more : to_come ≡ Some 0 → ⊥) (pcm_is : pcm ≡ data_in to_come next) (full_is : full ≡ full_size profile) (m_is : m ≡ min full (length pcm)) where
  abbrev t : Encoding
  t = parts left to_come moves

  abbrev g : Going
  g = (is.going none).0

  abbrev part : List ℕ
  part = take m pcm

  abbrev last : Bool
  last = leb (length pcm) full

  unit_at : encode_step t true next ≡ sends t g part last
  unit_at =
      let h = is.going none in
      let ok : checked g.profile ≡ Ok tt = ap checked h.2 ∙ is.passes in
      let full_at : full_size g.profile ≡ full = ap full_size h.2 ∙ sym full_is in
      let part_at : part_of g.profile (data_in to_come next) ≡ part =
      ap (λ (k : ℕ). take k (data_in to_come next)) full_at ∙ ap (λ (xs : List ℕ). take full xs) (sym pcm_is) ∙ sym (front_is full pcm) ∙ ap (λ (k : ℕ). take k pcm) (sym m_is) in
      let last_at : is_last g.profile (data_in to_come next) ≡ last = ap (λ (k : ℕ). leb (length (data_in to_come next)) k) full_at ∙ ap (λ (xs : List ℕ). leb (length xs) full) (sym pcm_is) in
      step_going t g true next some h.1 ok ∙ step_unit t g to_come true next more
      ∙ ap (λ (b : Bool). unit_step t g b (data_in to_come next)) (seen_at_end to_come next)
      ∙ ap (λ (xs : List ℕ). sends t g xs (is_last g.profile (data_in to_come next))) part_at ∙ ap (sends t g part) last_at

  fault_at : fault_in g.profile g.units part last ≡ fault_in profile units part last
  fault_at = let h = is.going none in ap (λ (p : Profile). fault_in p g.units part last) h.2 ∙ ap (λ (n : ℕ). fault_in profile n part last) h.3

  pub refused_by : (f : PcmFault) → fault_in profile units part last ≡ Some f → (s : Encoding) → t ≡ s → encode_step s true next ≡ Refuses (refused.Pcm f)
  refused_by f e s same = subst (λ (x : Encoding). encode_step x true next ≡ Refuses (refused.Pcm f)) same (unit_at ∙ ap (on_fault t g part last) (fault_at ∙ e))

  sent_at_it : (rows : List (List ℤ)) (r : Result (List ℕ × Left) NoRoom) → fault_in profile units part last ≡ None → rows ≡ frames_in profile part → next_sent left rows last ≡ r
      → encode_step t true next ≡ on_sent t (length part) r
  sent_at_it rows r e rows_are sent =
      let h = is.going none in
      let rows_at : frames_in g.profile part ≡ rows = ap (λ (p : Profile). frames_in p part) h.2 ∙ sym rows_are in
      unit_at ∙ ap (on_fault t g part last) (fault_at ∙ e)
      ∙ ap (λ (xs : List (List ℤ)). on_sent t (length part) (next_sent (Ok g) xs last)) rows_at
      ∙ ap (λ (l : Left). on_sent t (length part) (next_sent l rows last)) (sym h.1) ∙ ap (on_sent t (length part)) sent

  pub taken_by : (rows : List (List ℤ)) (x : Unit {0}) (out : List ℕ) (new : Left) (rest : Option ℕ) → fault_in profile units part last ≡ None → rows ≡ frames_in profile part
      → next_sent left rows last ≡ answered (Ok x) out new → rest ≡ less (length part) to_come → (s : Encoding) → t ≡ s
      → encode_step s true next ≡ Takes (length part) out (parts new rest (moves + 1))
  taken_by rows x out new rest e rows_are sent rest_is s same =
      subst (λ (x : Encoding). encode_step x true next ≡ Takes (length part) out (parts new rest (moves + 1))) same
      (sent_at_it rows (Ok (out, new)) e rows_are sent ∙ ap (λ (o : Option ℕ). Takes (length part) out (parts new o (moves + 1))) (sym rest_is))

  pub no_room_by : (rows : List (List ℤ)) (r : NoRoom) (out : List ℕ) (new : Left) → fault_in profile units part last ≡ None → rows ≡ frames_in profile part
      → next_sent left rows last ≡ answered (Err r) out new → (s : Encoding) → t ≡ s → encode_step s true next ≡ Refuses (refused.NoRoom r)
  no_room_by rows r out new e rows_are sent s same =
      subst (λ (x : Encoding). encode_step x true next ≡ Refuses (refused.NoRoom r)) same (sent_at_it rows (Err r) e rows_are sent)

  part_bytes : All (λ (b : ℕ). b < 256) pcm → All (λ (b : ℕ). b < 256) part
  part_bytes h = All-take (λ (b : ℕ). b < 256) m pcm h

  pub next_by : All (λ (b : ℕ). b < 256) pcm → 0 < length pcm → (rows : List (List ℤ)) → fault_in profile units part last ≡ None → rows ≡ frames_in profile part
      → (x : Going) → left ≡ Ok x → AreNext x.profile rows last
  next_by bytes there rows e rows_are x x_is =
      let h = is.going none in
      let same : x ≡ g = ok_is (sym x_is ∙ h.1) in
      let sized = sizes profile is.passes in
      let size : length part ≡ min full (length pcm) = length-take-le m pcm (omega (arith, m_is)) ∙ m_is in
      let next_are = next_frames profile units part last is.passes (part_bytes bytes) (omega (arith, size, full_is, there, sized.full_some)) (omega (arith, size, full_is))
      (λ whole. let lt : full < length pcm = leb-false (length pcm) full whole in omega (arith, size, full_is, lt)) e in
      subst (λ (p : Profile). AreNext p rows last) (sym (ap (λ (y : Going). y.profile) same ∙ h.2)) (subst (λ (xs : List (List ℤ)). AreNext profile xs last) (sym rows_are) next_are)
    where
      ok_left : Going → Left
      ok_left a = Ok a

      ok_is : {a b : Going} → ok_left a ≡ ok_left b → a ≡ b
      ok_is e = cc

-- ---- what a unit leaves

abbrev pub LeavesNext : Profile → ℕ → Result (List ℕ × Left) NoRoom → Type 0
LeavesNext profile units (Ok x) = (g : Going) × (x.1 ≡ Ok g) × (g.profile ≡ profile) × (g.units ≡ units + 1)
LeavesNext profile units (Err e) = Unit {0}

pub leaves_at : (g : Going) (frames : List (List ℤ)) (s : SentUnit) (body : Body) (r : Result (ℕ × LeftFifo) NoRoom) → LeavesNext g.profile g.units (sent_at g frames s body r)
leaves_at g frames s body (Ok x) = (_, refl, refl, refl)
leaves_at g frames s body (Err e) = tt

-- ---- whether it waits

abbrev if_waits : Bool → Move Encoding → Move Encoding
if_waits b m = if b then Waits else m

fault_moves : (s : Encoding) (g : Going) (part : List ℕ) (last : Bool) (o : Option PcmFault) → on_fault s g part last o ≡ Waits → ⊥
fault_moves s g part last (Some f) e = cc
fault_moves s g part last None e = sent_moves (next_sent (Ok g) (frames_in g.profile part) last) e
  where
    sent_moves : (r : Result (List ℕ × Left) NoRoom) → on_sent s (length part) r ≡ Waits → ⊥
    sent_moves (Ok x) e = cc
    sent_moves (Err x) e = cc

waits_if : (b : Bool) (m : Move Encoding) → (m ≡ Waits → ⊥) → IsTrue b ↔ (if_waits b m ≡ Waits)
waits_if true m never = (λ h. refl, λ h. refl)
waits_if false m never = (λ h. absurd cc, λ h. absurd (never h))

pub waits_refused : (left : Left) (to_come : Option ℕ) (moves : ℕ) (profile : Profile) (units : ℕ) (refusal : Option NoRoom) (next : List ℕ) → IsEncode profile units moves refusal left
    → is_some refusal ≡ true → 0 < length next → (s : Encoding) → parts left to_come moves ≡ s → IsTrue false ↔ (encode_step s false next ≡ Waits)
waits_refused left to_come moves profile units (Some r) next is there some s e =
    (λ h. absurd cc, λ h. absurd (never (sym (step_refused s false next r some (ap (λ (x : Encoding). x.left) (sym e) ∙ is.refused)) ∙ h)))
  where
    waiting : Move Encoding
    waiting = Waits

    never : Refuses (refused.NoRoom r) ≡ waiting → ⊥
    never h = cc
waits_refused left to_come moves profile units None next is there some s e = absurd cc

pub waits_passed : (left : Left) (to_come : Option ℕ) (moves : ℕ) (profile : Profile) (units : ℕ) (refusal : Option NoRoom) (next : List ℕ) → IsEncode profile units moves refusal left
    → refusal ≡ None → to_come ≡ Some 0 → 0 < length next → (s : Encoding) → parts left to_come moves ≡ s → IsTrue (ltb (length next) 4096) ↔ (encode_step s false next ≡ Waits)
waits_passed left to_come moves profile units refusal next is none done some s e =
    let h = is.going none in
    let t = parts left to_come moves in
    let ok : checked h.0.profile ≡ Ok tt = ap checked h.2 ∙ is.passes in
    let at : encode_step s false next ≡ page_step (leb page (length next)) = ap (λ (x : Encoding). encode_step x false next) (sym e) ∙ step_going t h.0 false next some h.1 ok ∙ ap (λ (o : Option ℕ). data_step t h.0 o false next) done in
    subst (λ (m : Move Encoding). IsTrue (ltb (length next) 4096) ↔ (m ≡ Waits)) (sym at) (by_page (cases_lt (length next) page))
  where
    page_step : Bool → Move Encoding
    page_step b = if b then Takes (min page (length next)) [] (parts left to_come (moves + 1)) else Waits

    took : page_step true ≡ Waits → ⊥
    took h = cc

    by_page : (length next < page) ⊎ (page ≤ length next) → IsTrue (ltb (length next) 4096) ↔ (page_step (leb page (length next)) ≡ Waits)
    by_page (inl lt) = (λ z. ap page_step (lt-leb page (length next) lt), λ z. lt-ltb (length next) 4096 lt)
    by_page (inr ge) = (λ z. absurd (let lt = ltb-true (length next) 4096 z in omega (arith, lt, ge)), λ z. absurd (took (ap page_step (sym (le-leb page (length next) ge)) ∙ z)))

pub waits_unit : (left : Left) (to_come : Option ℕ) (moves : ℕ) (profile : Profile) (units : ℕ) (refusal : Option NoRoom) (next pcm : List ℕ) (seen b : Bool) → IsEncode profile units moves refusal left
    → refusal ≡ None → (to_come ≡ Some 0 → ⊥) → 0 < length next → seen ≡ is_seen to_come false next → pcm ≡ data_in to_come next → b ≡ is_open profile seen pcm
    → (s : Encoding) → parts left to_come moves ≡ s → IsTrue b ↔ (encode_step s false next ≡ Waits)
waits_unit left to_come moves profile units refusal next pcm seen b is none more some seen_is pcm_is b_is s e =
    let h = is.going none in
    let t = parts left to_come moves in
    let ok : checked h.0.profile ≡ Ok tt = ap checked h.2 ∙ is.passes in
    let d = data_in to_come next in
    let open_is : b ≡ is_open h.0.profile (is_seen to_come false next) d =
    b_is ∙ ap (λ (p : Profile). is_open p seen pcm) (sym h.2) ∙ ap (λ (x : Bool). is_open h.0.profile x pcm) seen_is ∙ ap (is_open h.0.profile (is_seen to_come false next)) pcm_is in
    let at : encode_step s false next ≡ if_waits (is_open h.0.profile (is_seen to_come false next) d) (sends t h.0 (part_of h.0.profile d) (is_last h.0.profile d)) =
    ap (λ (x : Encoding). encode_step x false next) (sym e) ∙ step_going t h.0 false next some h.1 ok ∙ step_unit t h.0 to_come false next more in
    subst (λ (x : Bool). IsTrue x ↔ (encode_step s false next ≡ Waits)) (sym open_is)
    (subst (λ (m : Move Encoding). IsTrue (is_open h.0.profile (is_seen to_come false next) d) ↔ (m ≡ Waits)) (sym at)
    (waits_if (is_open h.0.profile (is_seen to_come false next) d) (sends t h.0 (part_of h.0.profile d) (is_last h.0.profile d)) (fault_moves t h.0 (part_of h.0.profile d) (is_last h.0.profile d) _)))

-- ---- tests of the code

pub none_there : (o : Option NoRoom) (b : Bool) → b ≡ is_some o → b ≡ false → o ≡ None
none_there None b e f = refl
none_there (Some r) b e f = absurd cc

pub zero_to_come : (o : Option ℕ) (b : Bool) → b ≡ option_eq eqb o (Some 0) → b ≡ true → o ≡ Some 0
zero_to_come None b e f = absurd cc
zero_to_come (Some n) b e f = ap (λ (k : ℕ). Some k) (eqb-true n 0 (sym e ∙ f))

pub more_to_come : (o : Option ℕ) (b : Bool) → b ≡ option_eq eqb o (Some 0) → b ≡ false → o ≡ Some 0 → ⊥
more_to_come o b e f h = both_ways b f (e ∙ ap (λ (x : Option ℕ). option_eq eqb x (Some 0)) h)

-- ---- the bytes

pub kept_by : (left : Left) (to_come : Option ℕ) (moves : ℕ) (profile : Profile) (units : ℕ) (refusal : Option NoRoom) (r : NoRoom) (next : List ℕ) → IsEncode profile units moves refusal left
    → refusal ≡ Some r → 0 < length next → (s : Encoding) → parts left to_come moves ≡ s → encode_step s true next ≡ Refuses (refused.NoRoom r)
kept_by left to_come moves profile units refusal r next is there some s e =
    step_refused s true next r some (ap (λ (x : Encoding). x.left) (sym e) ∙ subst (λ (o : Option NoRoom). IfSome o (λ e. left ≡ Err e)) there is.refused)

all_bytes : (next : List ℕ) → ((i : ℕ) → get_or next i 0 < 256) → All (λ (b : ℕ). b < 256) next
all_bytes next fits k d lt = subst (λ (b : ℕ). b < 256) (get_or_default next k 0 d lt) (fits k)

data_bytes : (o : Option ℕ) (next : List ℕ) → All (λ (b : ℕ). b < 256) next → All (λ (b : ℕ). b < 256) (data_in o next)
data_bytes None next h = h
data_bytes (Some n) next h = All-take (λ (b : ℕ). b < 256) n next h

pub pcm_bytes : (o : Option ℕ) (next pcm : List ℕ) → ((i : ℕ) → get_or next i 0 < 256) → pcm ≡ data_in o next → All (λ (b : ℕ). b < 256) pcm
pcm_bytes o next pcm fits e = subst (All (λ (b : ℕ). b < 256)) (sym e) (data_bytes o next (all_bytes next fits))

data_some : (o : Option ℕ) (next : List ℕ) → (o ≡ Some 0 → ⊥) → 0 < length next → 0 < length (data_in o next)
data_some None next more some = some
data_some (Some zero) next more some = absurd (more refl)
data_some (Some (suc n)) next more some = omega (arith, some, length-take (suc n) next)

pub pcm_some : (o : Option ℕ) (next pcm : List ℕ) → (o ≡ Some 0 → ⊥) → 0 < length next → pcm ≡ data_in o next → 0 < length pcm
pcm_some o next pcm more some e = subst (λ (xs : List ℕ). 0 < length xs) (sym e) (data_some o next more some)
