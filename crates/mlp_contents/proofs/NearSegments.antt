-- A fault of a segment isn't far behind its bits.
use Rattle.std.proofs.Common.{◌≡◌, ℕ, zero, suc, ◌+◌, ◌-◌, ◌≤◌, Bool, true, false, cond, eqb, leb, List, length, take, Result, Ok, Err, Option, Some, None, inl, inr, ap, arith}
use Rattle.std.proofs.lemmas.List.{length-take}
use Rattle.mlp_syntax.specs.declared.fault.Field.{Field}
use Rattle.mlp_syntax.specs.declared.fault.Field.TheVariants as rule
use Rattle.mlp_syntax.specs.declared.fault.Broken.{Broken}
use Rattle.mlp_syntax.specs.declared.major.Kind.{Kind}
use Rattle.mlp_syntax.specs.declared.restart.Restart.{Restart}
use Rattle.mlp_syntax.specs.declared.segment.Segment.{Segment}
use Rattle.mlp_layout.specs.Reading.{Read, broken, short}
use Rattle.mlp_layout.specs.Layout.{Layout, IsLayout, Sound}
use Rattle.mlp_layout.specs.Combined.{under}
use Rattle.mlp_layout.specs.Tails.{Tail, Whole, then_tail, part_tail, placed, ending, whole_text, end_read, then_judge, judged_at_end, checked_part, parity_is, check_is, checked_first, chosen_whole}
use Rattle.mlp_params.specs.declared.state.ChannelState.{ChannelState}
use Rattle.mlp_params.specs.declared.state.State.{State}
use Rattle.mlp_params.specs.RestartHeader.{restart_fields, restart}
use Rattle.mlp_params.specs.Filters.{widths, filter_state, filter}
use Rattle.mlp_params.specs.Matrices.{noise_shift_of, row, rows}
use Rattle.mlp_params.specs.Parameters.{filters_tested, channel, groups, params}
use Rattle.mlp_books.specs.Books.{book1, book2, book3, symbol_of, symbol_in}
use Rattle.mlp_books.proofs.SymbolLaws.{symbol_in_is}
use Rattle.mlp_residual.specs.declared.frames.ChannelCode.{ChannelCode}
use Rattle.mlp_residual.specs.declared.frames.Coding.{Coding}
use Rattle.mlp_residual.specs.Frames.{bypass_bits, code, frame, coded_frames, frames_of}
use Rattle.mlp_substream.specs.declared.known.Place.{Place}
use Rattle.mlp_substream.specs.declared.known.Known.{Known}
use Rattle.mlp_substream.specs.Restarts.{flags, judged_restart}
use Rattle.mlp_substream.specs.Blocks.{against, BlockContext, after_block, behind_flags, head, block}
use Rattle.mlp_substream.specs.Checks.{parity_of, check_of}
use Rattle.mlp_substream.specs.Segment.{terminator, padding_width, terminator_bits, same_end, frames_fit, end_fault, end_rules, segment_tail, segment_text, segment}
use Rattle.mlp_contents.proofs.Near.{NearRead, IsNear, ruled_near, must_at_near, must_near, up_to_last_near, nears, number_near, made_near, never_near, part_near}

-- ---- parameters

filter_state_near : (order : ℕ) → IsNear (filter_state order)
unfolding filter_state
filter_state_near order = search nears depth 20

widths_near : IsNear widths
unfolding widths
widths_near = search nears depth 20

filter_near : (n : ℕ) (has_state : Bool) → IsNear (filter n has_state)
unfolding filter
filter_near n has_state = search (nears, widths_near, filter_state_near) depth 40

noise_shift_near : (kind : ℕ) → IsNear (noise_shift_of kind)
unfolding noise_shift_of
noise_shift_near kind = search nears depth 20

row_near : (r : Restart) → IsNear (row r)
unfolding row
row_near r = search (nears, noise_shift_near) depth 40

rows_near : (format : Kind) (r : Restart) → IsNear (rows format r)
unfolding rows
rows_near format r = search (nears, row_near) depth 20

channel_near : (flags : ℕ) (in_force : ChannelState) → IsNear (channel flags in_force)
unfolding channel filters_tested
channel_near flags in_force = search (nears, filter_near) depth 40

groups_near : (s : State) (presence : Option ℕ) (flags : ℕ) → IsNear (groups s presence flags)
unfolding groups
groups_near s presence flags = search (nears, rows_near, channel_near) depth 40

params_near : (s : State) → IsNear (params s)
unfolding params
params_near s = search (nears, groups_near) depth 20

restart_fields_near : (format : Kind) → IsNear (restart_fields format)
unfolding restart_fields
restart_fields_near format = search nears depth 40

restart_near : (format : Kind) → IsNear (restart format)
unfolding restart
restart_near format = search (nears, restart_fields_near) depth 20

-- ---- frames

symbol_of_near : (book : List (List Bool)) → IsLayout (symbol_of book) → IsNear (symbol_of book)
unfolding symbol_of
symbol_of_near book is = record { near = λ all p le. go all p le ((symbol_of book).read all p) (is.sound all p le) }
  where
    go : (all : List Bool) (p : ℕ) → p ≤ length all → (r : Read ℕ) → Sound (symbol_of book) all p r → NearRead all r
    go all p le (Ok x) s = omega (arith, s.0.stands.within, s.1)
    go all p le (Err e) s = elim s [ inl a ↦ omega (arith, ap (λ (b : Broken). b.bit) a.1) | inr a ↦ omega (arith, ap (λ (b : Broken). b.bit) a.1) ]

symbol_in_near : (book : ℕ) → IsNear (symbol_in book)
unfolding symbol_in
symbol_in_near zero = made_near 0
symbol_in_near (suc zero) = symbol_of_near book1 (symbol_in_is 1)
symbol_in_near (suc (suc zero)) = symbol_of_near book2 (symbol_in_is 2)
symbol_in_near (suc (suc (suc book))) = symbol_of_near book3 (symbol_in_is (suc (suc (suc book))))

code_near : (c : ChannelCode) → IsNear (code c)
unfolding code
code_near c = search (nears, symbol_in_near) depth 20

bypass_near : (rows : List Bool) → IsNear (bypass_bits rows)
unfolding bypass_bits
bypass_near rows = search nears depth 20

frame_near : (k : Coding) → IsNear (frame k)
unfolding frame
frame_near k = search (nears, bypass_near, code_near) depth 20

frames_near : (s : State) (count : ℕ) → IsNear (frames_of s count)
unfolding frames_of coded_frames
frames_near s count = search (nears, frame_near) depth 20

-- ---- blocks

flags_near : (due : Bool) → IsNear (flags due)
unfolding flags under
flags_near due = ruled_near (must_at_near 1 _ _ (omega arith)) (ruled_near (must_near _ _) (search nears depth 20))

judged_near : (known : Known) (format : Kind) → IsNear (judged_restart known format)
unfolding judged_restart under
judged_near known format = ruled_near (must_at_near 89 _ _ (omega arith)) (ruled_near (must_at_near 38 _ _ (omega arith)) (ruled_near (must_at_near 38 _ _ (omega arith)) (restart_near format)))

against_near : {A : Type 0} (force : Option State) {l : State → Layout A} → ((s : State) → IsNear (l s)) → IsNear (against force l)
unfolding against
against_near None h = never_near _
against_near (Some s) h = h s

behind_flags_near : (place : Place) (known : Known) (force : Option State) (f : Bool × Bool) → IsNear (behind_flags place known force f)
unfolding behind_flags
behind_flags_near place known force f = search (nears, judged_near, against_near, params_near) depth 40

head_near : (place : Place) (known : Known) (due : Bool) (force : Option State) → IsNear (head place known due force)
unfolding head
head_near place known due force = part_near _ (flags_near due) (behind_flags_near place known force)

block_near : (place : Place) (known : Known) (at : BlockContext) → IsNear (block place known at)
unfolding block
block_near place known at = search (nears, head_near, against_near, frames_near) depth 40

-- ---- tails and texts

abbrev NearResult : {R : Type 0} → List Bool → Result R Broken → Type 0
NearResult all (Ok r) = Unit {0}
NearResult all (Err e) = e.bit ≤ length all + 128

record IsNearTail {R : Type 0} (t : Tail R) : Type 0 where
  near : (all : List Bool) (p : ℕ) → p ≤ length all → NearResult all (t.read all p)

record IsNearText {R : Type 0} (w : Whole R) : Type 0 where
  near : (all : List Bool) → NearResult all (w.read all)

then_near : {A R : Type 0} (all : List Bool) (r : Read A) (f : A × ℕ → Result R Broken) → NearRead all r → ((x : A × ℕ) → x.1 ≤ length all → NearResult all (f x)) → NearResult all (then_tail r f)
then_near all (Ok x) f h k = k x h
then_near all (Err e) f h k = h

part_tail_near : {A R : Type 0} {first : Layout A} (of_record : R → A) {rest : A → Tail R} → IsNear first → ((a : A) → IsNearTail (rest a)) → IsNearTail (part_tail first of_record rest)
unfolding part_tail
part_tail_near of_record {rest} h k = record { near = λ all p le. then_near all _ (λ a. (rest a.0).read all a.1) (h.near all p le) (λ x q. (k x.0).near all x.1 q) }

placed_near : {R : Type 0} {tail : ℕ → Tail R} → ((n : ℕ) → IsNearTail (tail n)) → IsNearTail (placed tail)
unfolding placed
placed_near h = record { near = λ all p le. (h p).near all p le }

ending_near : {T R : Type 0} (field : Field) (width : ℕ) {last : Layout T} (of_record : R → Option T) (made : Option T → R) → IsNear last → IsNearTail (ending field width last of_record made)
unfolding ending
ending_near {T} {R} field width {last} of_record made h = record { near = λ all p le. go all p le (eqb (length all) p) (eqb (length all) (p + width)) }
  where
    go : (all : List Bool) (p : ℕ) → p ≤ length all → (a b : Bool)
        → NearResult all (cond {A = Result R Broken} a (Ok (made None)) (cond {A = Result R Broken} b (then_tail (last.read all p) (λ t. Ok (made (Some t.0)))) (Err (broken field p))))
    go all p le true b = tt
    go all p le false true = then_near all (last.read all p) (λ t. Ok (made (Some t.0))) (h.near all p le) (λ x q. tt)
    go all p le false false = omega arith

terminator_near : (format : Kind) → IsNear (terminator format)
unfolding terminator
terminator_near format = search nears depth 20

tail_near : (place : Place) (known : Known) (at : BlockContext) (checked : Bool) → IsNearTail (segment_tail place known at checked)
unfolding segment_tail
tail_near place known at checked =
    part_tail_near _ (up_to_last_near (after_block place) _ 21 at (block_near place known))
    (λ bs. placed_near (λ here. part_tail_near _ (number_near (padding_width here)) (λ padding. ending_near _ 32 _ _ (terminator_near place.format))))

whole_near : {R : Type 0} {t : Tail R} → IsNearTail t → IsNearText (whole_text t)
unfolding whole_text
whole_near h = record { near = λ all. h.near all 0 (omega arith) }

-- a rule at the end isn't behind the bits
end_near : (all : List Bool) (n : ℕ) (s : Segment) (a b : Bool) → NearResult all (end_read (end_fault a b (length all - n)) s)
end_near all n s false b = omega arith
end_near all n s true false = omega arith
end_near all n s true true = tt

judged_end_near : (known : Known) (unit : ℕ) {w : Whole Segment} → IsNearText w → IsNearText (judged_at_end (end_rules known unit) w)
unfolding judged_at_end end_rules
judged_end_near known unit {w} h = record { near = λ all. go all (w.read all) (h.near all) }
  where
    go : (all : List Bool) (r : Result Segment Broken) → NearResult all r → NearResult all (then_judge r (end_rules known unit (length all)))
    go all (Ok s) n = end_near all (terminator_bits s) s (same_end known.first s) (frames_fit known.first unit s)
    go all (Err e) n = n

text_near : (place : Place) (known : Known) (force : Option State) (checked : Bool) → IsNearText (segment_text place known force checked)
unfolding segment_text
text_near place known force checked = judged_end_near known place.unit_frames (whole_near (tail_near place known _ checked))

less_near : {R : Type 0} (all : List Bool) (n : ℕ) (r : Result R Broken) → NearResult (take n all) r → NearResult all r
less_near all n (Ok x) h = tt
less_near all n (Err e) h = omega (arith, length-take n all, h)

checked_text_near : {R : Type 0} (parity check : List Bool → ℕ) {w : Whole R} → IsNearText w → IsNearText (checked_first parity check w)
unfolding checked_first
checked_text_near {R} parity check {w} h = record { near = λ all. go all (leb 32 (length all)) (parity_is parity all) (check_is check all) }
  where
    go : (all : List Bool) (a b c : Bool)
        → NearResult all (cond {A = Result R Broken} a (cond {A = Result R Broken} b (cond {A = Result R Broken} c (w.read (checked_part all)) (Err (broken rule.SegmentCheck (length all - 8))))
        (Err (broken rule.SegmentParity (length all - 16)))) (Err (short 0)))
    go all true true true = less_near all (length all - 16) (w.read (checked_part all)) (h.near (checked_part all))
    go all true true false = omega arith
    go all true false c = omega arith
    go all false b c = omega arith

segment_text_near : (place : Place) (known : Known) (force : Option State) (checked : Bool) → IsNearText (segment place known force checked)
unfolding segment chosen_whole
segment_text_near place known force true = checked_text_near parity_of check_of (text_near place known force true)
segment_text_near place known force false = text_near place known force false

pub segment_near : (place : Place) (known : Known) (force : Option State) (checked : Bool) (all : List Bool) (e : Broken) → (segment place known force checked).read all ≡ Err e → e.bit ≤ length all + 128
segment_near place known force checked all e is = rw is at ((segment_text_near place known force checked).near all)
