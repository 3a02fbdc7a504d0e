-- What the session of `decode-raw` does with the next bytes.
use Rattle.std.proofs.Common.{◌≡◌, ℕ, ◌+◌, ◌↔◌, true, false, IsTrue, List, length, Result, Ok, Err, Some, sym, ap, subst, ◌∙◌, ℤ}
use Rattle.mlp_walk.specs.declared.refusal.Refusal.{Refusal as Declined}
use Rattle.mlp_walk.specs.Next.{next_of}
use Rattle.mlp_stream.specs.declared.refusal.Refusal.{Refusal}
use Rattle.mlp_stream.specs.Moves.{Move, Waits, Takes, Refuses, moved}
use Rattle.mlp_answers.specs.Reading.{refusal_of}
use Rattle.mlp_answers.proofs.ReadingLaws.{step_is}
use Rattle.mlp_contents.specs.Units.{Unit_of, whole, frames_out}
use Rattle.mlp_present.specs.Parts.{Next}
use Rattle.mlp_present.specs.Decoding.{Held, next_unit, after_unit, is_open_behind, waits, GivesUnit}
use Rattle.mlp_sessions.specs.Playing.{played, places, Player, after_played, with_session, given, decode_reader, decode_step}
use Rattle.mlp_sessions.proofs.DecoderSteps.{given_move, stepped_at, refuses_by, takes_by, waiting}

-- ---- by what comes of the next unit, or came

-- at the end of the bytes nothing is waited for
at_end : (s : Player) (bytes : List ℕ) → decode_step s true bytes ≡ stepped_at s.held.k decode_reader s s.held.refusal false (next_of (whole s.held.k) (Some s.held.k) s.held.units s.held.left bytes)
at_end s bytes = step_is (whole s.held.k) (Some s.held.k) is_open_behind decode_reader s true bytes

decode_refuses : (s : Player) (bytes : List ℕ) (e : Declined) → next_unit s.held bytes ≡ Err e → decode_step s true bytes ≡ Refuses (refusal_of e)
decode_refuses s bytes e h = at_end s bytes ∙ refuses_by s.held.k decode_reader s s.held.refusal _ e h

-- ---- a unit that is given

-- what is played, by the decoder behind the unit
played_is : (bits before c d : ℕ) (xs ys : List (List ℤ)) → c ≡ d → xs ≡ ys → played bits d before ys ≡ played bits c before xs
played_is bits before c d xs ys e f = ap (λ (n : ℕ). played bits n before ys) (sym e) ∙ ap (played bits c before) (sym f)

pub record IsPlayed (s : Player) (bytes : List ℕ) (size : ℕ) (frames : List (List ℤ)) (new : Held) (x : Result (List ℕ) Refusal) : Type 0 where
  pub unit : Unit_of
  pub next : next_unit s.held bytes ≡ Ok (record { size = size; unit = unit })
  pub player : after_played s unit ≡ record { held = new; bits = s.bits; frames = s.frames + length frames }
  pub given : given s (record { size = size; unit = unit }) ≡ with_session (after_played s unit) x

is_played : (s : Player) (bytes : List ℕ) (size : ℕ) (frames : List (List ℤ)) (new : Held) (x : Result (List ℕ) Refusal) → GivesUnit s.held bytes size frames new
    → played s.bits (places new.channels) s.frames frames ≡ x → IsPlayed s bytes size frames new x
is_played s bytes size frames new x g e = record {
  unit = g.unit;
  next = g.next_is;
  player =
      ap (λ (h : Held). record { held = h; bits = s.bits; frames = s.frames + length (frames_out s.held.k s.held.left g.unit) }) (sym g.held_is)
      ∙ ap (λ (xs : List (List ℤ)). record { held = new; bits = s.bits; frames = s.frames + length xs }) (sym g.frames_are);
  given = ap (with_session (after_played s g.unit))
      (played_is s.bits s.frames (places new.channels) (places (after_unit s.held g.unit).channels) frames (frames_out s.held.k s.held.left g.unit) (ap (λ (h : Held). places h.channels) g.held_is) g.frames_are ∙ e);
}

decode_takes : (s : Player) (bytes out : List ℕ) (size : ℕ) (frames : List (List ℤ)) (new : Held) → GivesUnit s.held bytes size frames new → played s.bits (places new.channels) s.frames frames ≡ Ok out
    → decode_step s true bytes ≡ Takes size out (record { held = new; bits = s.bits; frames = s.frames + length frames })
decode_takes s bytes out size frames new g p =
    let i = is_played s bytes size frames new (Ok out) g p in
    at_end s bytes ∙ takes_by s.held.k decode_reader s s.held.refusal _ _ i.next ∙ ap (given_move s.held.k decode_reader s size) i.given ∙ ap (Takes size out) i.player

decode_low : (s : Player) (bytes : List ℕ) (size : ℕ) (frames : List (List ℤ)) (new : Held) (r : Refusal) → GivesUnit s.held bytes size frames new → played s.bits (places new.channels) s.frames frames ≡ Err r
    → decode_step s true bytes ≡ Refuses r
decode_low s bytes size frames new r g p =
    let i = is_played s bytes size frames new (Err r) g p in
    at_end s bytes ∙ takes_by s.held.k decode_reader s s.held.refusal _ _ i.next ∙ ap (given_move s.held.k decode_reader s size) i.given

-- ---- of a session of these parts

abbrev pub parts : Held → ℕ → ℕ → Player
parts held bits frames = record { held = held; bits = bits; frames = frames }

pub decode_taken : (held : Held) (bits before : ℕ) (bytes out : List ℕ) (size all channels : ℕ) (frames rows : List (List ℤ)) (new : Held) → GivesUnit held bytes size frames new → channels ≡ new.channels → rows ≡ frames
    → played bits (places channels) before rows ≡ Ok out → all ≡ before + length rows → (s : Player) → parts held bits before ≡ s → decode_step s true bytes ≡ Takes size out (parts new bits all)
decode_taken held bits before bytes out size all channels frames rows new g c r p n s e =
    let here : played bits (places new.channels) before frames ≡ Ok out = played_is bits before (places channels) (places new.channels) rows frames (ap places c) r ∙ p in
    let sum : before + length frames ≡ all = ap (λ (xs : List (List ℤ)). before + length xs) (sym r) ∙ sym n in
    subst (λ (t : Player). decode_step t true bytes ≡ Takes size out (parts new bits all)) e
    (decode_takes (parts held bits before) bytes out size frames new g here ∙ ap (λ (k : ℕ). Takes size out (parts new bits k)) sum)

pub decode_lacking : (held : Held) (bits before : ℕ) (bytes out : List ℕ) (size channels : ℕ) (frames rows : List (List ℤ)) (new : Held) (r : Refusal) (x : Result ℕ Refusal) (t : Player) → GivesUnit held bytes size frames new
    → channels ≡ new.channels → rows ≡ frames → played bits (places channels) before rows ≡ Err r → x ≡ Err r → (s : Player) → parts held bits before ≡ s → decode_step s true bytes ≡ moved x out t
decode_lacking held bits before bytes out size channels frames rows new r x t g c w p q s e =
    let here : played bits (places new.channels) before frames ≡ Err r = played_is bits before (places channels) (places new.channels) rows frames (ap places c) w ∙ p in
    subst (λ (u : Player). decode_step u true bytes ≡ moved x out t) e
    (decode_low (parts held bits before) bytes size frames new r g here ∙ ap (λ (y : Result ℕ Refusal). moved y out t) (sym q))

pub decode_declined : (held : Held) (bits before : ℕ) (bytes : List ℕ) (d : Declined) (r : Refusal) → next_unit held bytes ≡ Err d → r ≡ refusal_of d → (s : Player) → parts held bits before ≡ s → decode_step s true bytes ≡ Refuses r
decode_declined held bits before bytes d r h q s e =
    subst (λ (u : Player). decode_step u true bytes ≡ Refuses r) e
    (decode_refuses (parts held bits before) bytes d h ∙ ap (λ (k : Refusal). Refuses k) (sym q))

-- ---- it waits exactly where its decoder does

pub decode_waits : (s : Player) (bytes : List ℕ) → IsTrue (waits s.held bytes) ↔ (decode_step s false bytes ≡ Waits)
decode_waits s bytes =
    let next : Next = next_of (whole s.held.k) (Some s.held.k) s.held.units s.held.left bytes in
    subst (λ (m : Move Player). IsTrue (waits s.held bytes) ↔ (m ≡ Waits)) (sym (step_is (whole s.held.k) (Some s.held.k) is_open_behind decode_reader s false bytes))
    (waiting s.held.k decode_reader s s.held.refusal (is_open_behind s.held.left bytes) next)
