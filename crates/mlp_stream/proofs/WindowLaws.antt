-- What a window has after each call.
use Rattle.std.proofs.Common.{◌≡◌, ℕ, ◌+◌, ◌-◌, ◌<◌, ◌≤◌, min, ◌++◌, List, [], ◌∷◌, length, take, drop, get_or, Option, refl, sym, ap, subst, ◌∙◌, arith, length-drop, length-append}
use Rattle.std.proofs.lemmas.List.{drop-take, drop-drop, length-take, length-take-le, take_more}
use Rattle.std.specs.Io.KnownBytes.{Consumes, IsAtEnd}
use Rattle.mlp_stream.specs.declared.window.Rest.{Rest}
use Rattle.mlp_stream.specs.declared.window.Rest.TheVariants.{More, Ended, Over}
use Rattle.mlp_stream.specs.Sides.{Side}
use Rattle.mlp_io.specs.Limit.{limit}
use Rattle.mlp_stream.specs.Sizes.{most_of_unit, window_room}
use Rattle.mlp_stream.specs.Held.{Held, RestIs, kept, Gave, GaveMore, Refills}
use Rattle.mlp_io.proofs.Bytes.{take-put_end}
use borrow.Rule.Slice.PartMut.{put_mid}

-- a side with these bytes before and behind
abbrev pub between : Option (List ℕ) → Option (List ℕ) → Side
between before behind = record { before = before; behind = behind }

pub skipped : (room : List ℕ) (start end count : ℕ) → count + start ≤ end → take (end - (start + count)) (drop (start + count) room) ≡ drop count (take (end - start) (drop start room))
skipped room start end count le =
    let rest = end - (start + count) in
    let same : count + (end - (start + count)) ≡ end - start = omega arith in
    let cut : drop count (take (count + rest) (drop start room)) ≡ take rest (drop count (drop start room)) = drop-take count rest (drop start room) in
    sym (subst (λ (k : ℕ). drop count (take k (drop start room)) ≡ take rest (drop count (drop start room))) same cut ∙ ap (take rest) (drop-drop count start room))

-- so many bytes came
pub gave : (rest : Rest) (taken before_taken count want : ℕ) (a b : Option (List ℕ)) (buf : List ℕ)
    → taken ≡ before_taken + count → before_taken ≤ limit → taken ≤ limit + 1 → count ≤ length buf → RestIs taken count want rest
    → Consumes a b (take count buf) → (count < want → IsAtEnd b) → Gave rest (before_taken + kept rest count) a b (take (kept rest count) buf)
gave More taken before_taken count want a b buf sum low high fits is took end = took
gave Ended taken before_taken count want a b buf sum low high fits is took end = (took, end is.1)
gave Over taken before_taken count want a b buf sum low high fits is took end =
    let one : count - 1 + 1 ≡ count = omega arith in
    let cut : take (count - 1 + 1) buf ≡ take (count - 1) buf ++ get_or buf (count - 1) 0 ∷ [] = take_more buf (count - 1) 0 (omega arith) in
    (get_or buf (count - 1) 0, subst (Consumes a b) (ap (λ (k : ℕ). take k buf) (sym one) ∙ cut) took, omega arith)

gave_more : (old rest : Rest) (taken : ℕ) (a b : Option (List ℕ)) (got : List ℕ) → old ≡ More → Gave rest taken a b got → GaveMore old rest taken a b got
gave_more More rest taken a b got e g = g
gave_more Ended rest taken a b got e g = absurd cc
gave_more Over rest taken a b got e g = absurd cc

ready : (rest : Rest) (taken count want size : ℕ) → RestIs taken count want rest → (taken ≤ limit → want ≤ count → most_of_unit ≤ size) → rest ≡ More → most_of_unit ≤ size
ready More taken count want size is h e = h is.0 is.1
ready Ended taken count want size is h e = absurd cc
ready Over taken count want size is h e = absurd cc

kept-le : (rest : Rest) (count : ℕ) → kept rest count ≤ count
kept-le More count = omega arith
kept-le Ended count = omega arith
kept-le Over count = omega arith

kept-taken : (rest : Rest) (taken before_taken count want : ℕ) → taken ≡ before_taken + count → before_taken ≤ limit → taken ≤ limit + 1 → RestIs taken count want rest → before_taken + kept rest count ≤ limit
kept-taken More taken before_taken count want sum low high is = omega arith
kept-taken Ended taken before_taken count want sum low high is = omega arith
kept-taken Over taken before_taken count want sum low high is = omega arith

kept_more : (rest : Rest) (count : ℕ) → rest ≡ More → kept rest count ≡ count
kept_more More count e = refl
kept_more Ended count e = absurd cc
kept_more Over count e = absurd cc

-- bytes were read behind those that were held, which stand at the front
filled : (old : Held) (room buf : List ℕ) (size count want k : ℕ) (rest : Rest) (a b : Option (List ℕ)) → old.rest ≡ More → old.taken ≤ limit → length old.bytes < most_of_unit
    → take size room ≡ old.bytes → size ≡ length old.bytes → size ≤ length room → length buf ≡ want → want ≡ min (window_room - size) (limit + 1 - old.taken)
    → count ≤ want → RestIs (old.taken + count) count want rest → Consumes a b (take count buf) → (count < want → IsAtEnd b)
    → Refills old (record { bytes = take (size + kept rest count) (put_mid size k room buf); taken = old.taken + kept rest count; rest = rest }) (between a b)
filled old room buf size count want k rest a b more low short front size_is fits long want_is few is took end =
    let keeps = kept-le rest count in
    let got = take (kept rest count) buf in
    let got_long : length got ≡ kept rest count = length-take-le (kept rest count) buf (omega arith) in
    record {
      got = got;
      bytes = take-put_end room buf size (kept rest count) k fits (omega arith) ∙ ap (λ (x : List ℕ). x ++ got) front;
      taken = ap (λ (n : ℕ). old.taken + n) (sym got_long);
      gave = gave_more old.rest rest _ a b got more (gave rest (old.taken + count) old.taken count want a b buf refl low (omega arith) (omega arith) is took end);
      ready = λ e.
          let all = kept_more rest count e in
          let put = take-put_end room buf size (kept rest count) k fits (omega arith) ∙ ap (λ (x : List ℕ). x ++ got) front in
          ready rest (old.taken + count) count want _ is (λ l w. omega (arith, ap length put, length-append old.bytes got)) e;
      within = kept-taken rest (old.taken + count) old.taken count want refl low (omega arith) is;
    }

abbrev held : List ℕ → ℕ → Rest → Held
held bytes taken rest = record { bytes = bytes; taken = taken; rest = rest }

-- the same, at the fields of a window
pub refilled : (old : Held) (room after_front buf : List ℕ) (start end taken want count keep k : ℕ) (before rest : Rest) (a b : Option (List ℕ))
    → held (take (end - start) (drop start room)) taken before ≡ old → old.rest ≡ More → length old.bytes < most_of_unit → start ≤ end → end ≤ length room → taken ≤ limit
    → take (end - start) after_front ≡ take (end - start) (drop start room) → length after_front ≡ length room → length buf ≡ want → want ≡ min (window_room - (end - start)) (limit + 1 - taken)
    → count ≤ want → RestIs (taken + count) count want rest → keep ≡ kept rest count → Consumes a b (take count buf) → (count < want → IsAtEnd b)
    → Refills old (record { bytes = take (end - start + keep - 0) (drop 0 (put_mid (end - start) k after_front buf)); taken = taken + keep; rest = rest }) (between a b)
refilled old room after_front buf start end taken want count keep k before rest a b view more short order fits low front same long want_is few is keep_is took last =
    let size = end - start in
    let bytes_is : take size (drop start room) ≡ old.bytes = ap (λ (h : Held). h.bytes) view in
    let taken_is : taken ≡ old.taken = ap (λ (h : Held). h.taken) view in
    let size_is : size ≡ length old.bytes = omega (arith, ap length bytes_is, length-take size (drop start room), length-drop start room) in
    let all = filled old after_front buf size count want k rest a b more (omega arith) short (front ∙ bytes_is) size_is
    (omega arith) long (omega arith) few (subst (λ (t : ℕ). RestIs (t + count) count want rest) taken_is is) took last in
    let none : size + keep - 0 ≡ size + kept rest count = omega arith in
    subst (λ (h : Held). Refills old h (between a b)) (held_is none (sym keep_is) (sym taken_is)) all
  where
    held_is : {m n p q : ℕ} → m ≡ n → p ≡ q → old.taken ≡ taken
        → held (take n (put_mid (end - start) k after_front buf)) (old.taken + p) rest ≡ held (take m (drop 0 (put_mid (end - start) k after_front buf))) (taken + q) rest
    held_is e f t = cc
