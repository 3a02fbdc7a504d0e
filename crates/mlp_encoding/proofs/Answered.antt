-- Each PCM has an answer, and the session gives it.
use Rattle.std.proofs.Common.{◌≡◌, ◌≢◌, ℕ, zero, suc, ◌+◌, ◌%◌, ◌<◌, ◌≤◌, ◌++◌, Bool, true, false, List, [], ◌∷◌, length, map, take, drop, Option, None, Some, Result, Ok, ℤ, ◌⊎◌}
use Rattle.std.proofs.Common.{inl, inr, refl, sym, ap, subst, ◌∙◌, arith, append_assoc, length-drop, take-append-drop}
use Rattle.std.specs.Prelude.{◌||◌, nat_le}
use Rattle.std.proofs.Math.Nat.{mul-mod_left}
use Rattle.std.proofs.lemmas.Bool.{cases_lt, cases_eq, le-leb}
use Rattle.std.proofs.lemmas.List.{take_all, nil_from_length, length-take-le}
use Rattle.std.proofs.lemmas.List.Elements.{All-nil, All-cons}
use Rattle.mlp_syntax.specs.declared.major.Kind.{Kind}
use Rattle.mlp_syntax.specs.declared.major.Kind.TheVariants.{Fbb, Fba}
use Rattle.mlp_syntax.specs.declared.refusal.PcmFault.TheVariants as fault
use Rattle.mlp_stream.specs.declared.stop.Stop.{Stop}
use Rattle.mlp_stream.specs.Streams.{Outcome}
use Rattle.mlp_fifo.specs.Pace.{unit_of}
use Rattle.mlp_fold.specs.declared.profile.Profile.{Profile}
use Rattle.mlp_fold.specs.Profile.{checked}
use Rattle.mlp_encode.specs.Left.{going}
use Rattle.mlp_encode.specs.Unit.{joined}
use Rattle.mlp_encode.specs.Sent.{sent}
use Rattle.mlp_encoding.specs.Pcm.{frame_size, full_size, frames_in, first_padded, data_in, is_seen, IsFull, AreFull, refusing, Ends, whole, empty, padded, cut_frame, cut_unit, unfinished}
use Rattle.mlp_encoding.specs.Encoding.{Encoding, encoding}
use Rattle.mlp_encoding.specs.Encoded.{end_by, Encoded}
use Rattle.mlp_encoding.specs.Sizes.{AreSizes, sizes}
use Rattle.mlp_encoding.proofs.Sending.{runs, At}
use Rattle.mlp_encoding.proofs.Outcomes.{sound}

module _ (p : Profile) (ok : checked p ≡ Ok tt) (ended seen : Bool) where
  is : AreSizes p
  is = sizes p ok

  -- what is behind full units, and how it ends
  pub record Ending (n : ℕ) (rest : List ℕ) : Type 0 where
    pub more : List (List (List ℤ))
    pub last : Bool
    pub end : Result Unit Stop
    pub ends : Ends p n ended seen rest more last end

  pub record Chopped (n : ℕ) (pcm : List ℕ) : Type 0 where
    pub units : List (List ℕ)
    pub rest : List ℕ
    pub full : AreFull p pcm units rest
    pub ending : Ending (n + length units) rest

  full_even : full_size p % frame_size p ≡ 0
  full_even = mul-mod_left (unit_of p.rate) (frame_size p)

  last_or_cut : (n : ℕ) (rest : List ℕ) → seen ≡ true → 0 < length rest → length rest ≤ full_size p → first_padded p rest ≡ None → length rest % frame_size p ≡ 0 → (k : Kind) → p.kind ≡ k → Ending n rest
  last_or_cut n rest e some le c w Fba k =
      record { more = _; last = _; end = _; ends = whole e (record { some = some; most = le; whole = w; full = λ z. absurd (never (sym k ∙ z)); clear = c }) }
    where
      never : Fba ≡ Fbb → ⊥
      never h = cc
  last_or_cut n rest e some le c w Fbb k = elim (cases_lt (length rest) (full_size p)) [
    | inl lt ↦ record { more = _; last = _; end = _; ends = cut_unit e k some lt c w }
    | inr ge ↦ record { more = _; last = _; end = _; ends = whole e (record { some = some; most = le; whole = w; full = λ z. omega (arith, ge, le); clear = c }) }
  ]

  clear_end : (n : ℕ) (rest : List ℕ) → seen ≡ true → 0 < length rest → length rest ≤ full_size p → first_padded p rest ≡ None → Ending n rest
  clear_end n rest e some le c = elim (cases_eq (length rest % frame_size p) 0) [
    | inl w ↦ last_or_cut n rest e some le c w p.kind refl
    | inr ne ↦ record { more = _; last = _; end = _; ends = cut_frame e (short ne) c ne }
  ]
    where
      short : length rest % frame_size p ≢ 0 → length rest < full_size p
      short ne = elim (cases_lt (length rest) (full_size p)) [
        | inl lt ↦ lt
        | inr ge ↦ absurd (ne (ap (λ (k : ℕ). k % frame_size p) (let z : length rest ≡ full_size p = omega (arith, ge, le) in z) ∙ full_even))
      ]

  seen_end : (n : ℕ) (rest : List ℕ) → seen ≡ true → (0 < length rest) ⊎ (n ≡ 0) → length rest ≤ full_size p → (o : Option ℕ) → first_padded p rest ≡ o → Ending n rest
  seen_end n rest e (inl some) le None c = clear_end n rest e some le c
  seen_end n rest e (inr z) le None c = elim (cases_lt 0 (length rest)) [
    | inl some ↦ clear_end n rest e some le c
    | inr none ↦ record { more = _; last = _; end = _; ends = empty e z (nil_from_length rest (omega (arith, none))) }
  ]
  seen_end n rest e d le (Some frame) c = record { more = _; last = _; end = _; ends = padded frame (inl e) (ap (first_padded p) (take_all (full_size p) rest le) ∙ c) }

  open_end : (n : ℕ) (rest : List ℕ) → seen ≡ false → (0 < length rest) ⊎ (n ≡ 0) → length rest ≤ full_size p → (o : Option ℕ) → first_padded p rest ≡ o → Ending n rest
  open_end n rest e d le None c = record { more = _; last = _; end = _; ends = unfinished e d le (λ z. c) }
  open_end n rest e d le (Some frame) c = elim (cases_lt (length rest) (full_size p)) [
    | inl lt ↦ record { more = _; last = _; end = _; ends = unfinished e d le (λ z. absurd (omega (arith, lt, z))) }
    | inr ge ↦ record { more = _; last = _; end = _; ends = padded frame (inr ge) (ap (first_padded p) (take_all (full_size p) rest le) ∙ c) }
  ]

  an_end : (n : ℕ) (rest : List ℕ) → (0 < length rest) ⊎ (n ≡ 0) → length rest ≤ full_size p → (b : Bool) → seen ≡ b → Ending n rest
  an_end n rest d le true e = seen_end n rest e d le (first_padded p rest) refl
  an_end n rest d le false e = open_end n rest e d le (first_padded p rest) refl

  -- what is behind nothing
  alone : (n : ℕ) (pcm : List ℕ) → Ending n pcm → Chopped n pcm
  alone n pcm x = record { units = []; rest = pcm; full = record { are = refl; full = All-nil (IsFull p) }; ending = subst (λ (k : ℕ). Ending k pcm) (let z : n ≡ n + 0 = omega arith in z) x }

  with_first : (n : ℕ) (pcm : List ℕ) → full_size p < length pcm → first_padded p (take (full_size p) pcm) ≡ None → Chopped (n + 1) (drop (full_size p) pcm) → Chopped n pcm
  with_first n pcm lt c x = record {
    units = take (full_size p) pcm ∷ x.units;
    rest = x.rest;
    full = record {
      are = sym (take-append-drop (full_size p) pcm) ∙ ap (λ (xs : List ℕ). take (full_size p) pcm ++ xs) x.full.are ∙ sym (append_assoc (take (full_size p) pcm) (joined x.units) x.rest);
      full = All-cons (IsFull p) (take (full_size p) pcm) x.units (record { size = length-take-le (full_size p) pcm (omega (arith, lt)); clear = c }) x.full.full;
    };
    ending = subst (λ (k : ℕ). Ending k x.rest) (let z : (n + 1) + length x.units ≡ n + suc (length x.units) = omega arith in z) x.ending;
  }

  on_first : (n : ℕ) (pcm : List ℕ) → full_size p < length pcm → (0 < length pcm) ⊎ (n ≡ 0) → Chopped (n + 1) (drop (full_size p) pcm) → (o : Option ℕ) → first_padded p (take (full_size p) pcm) ≡ o → Chopped n pcm
  on_first n pcm lt d x None c = with_first n pcm lt c x
  on_first n pcm lt d x (Some frame) c = alone n pcm (record { more = _; last = _; end = _; ends = padded frame (inr (omega (arith, lt))) c })

  chop : (turns n : ℕ) (pcm : List ℕ) → length pcm < turns → (0 < length pcm) ⊎ (n ≡ 0) → Chopped n pcm
  chop zero n pcm few d = absurd (omega arith)
  chop (suc turns) n pcm few d = elim (cases_lt (full_size p) (length pcm)) [
    | inl lt ↦ on_first n pcm lt d
        (chop turns (n + 1) (drop (full_size p) pcm) (omega (arith, few, is.full_some, lt, length-drop (full_size p) pcm)) (inl (omega (arith, lt, length-drop (full_size p) pcm)))) (first_padded p (take (full_size p) pcm)) refl
    | inr ge ↦ alone n pcm (an_end n pcm d ge seen refl)
  ]

  -- the frames of all data
  pub chopped : (pcm : List ℕ) → Chopped 0 pcm
  chopped pcm = chop (suc (length pcm)) 0 pcm (omega arith) (inr refl)

abbrev run_of : Profile → Option ℕ → Bool → List ℕ → Outcome Encoding
run_of p size ended bytes = runs ended (encoding p size) bytes

start : (p : Profile) → At p 0 (Ok (going p))
start p = record { g = going p; left_is = refl; profile = refl; units = refl }

-- the session gives an answer
pub made : (p : Profile) → checked p ≡ Ok tt → (size : Option ℕ) → (size ≡ Some 0 → ⊥) → (ended : Bool) (bytes : List ℕ) → Encoded p size ended bytes (run_of p size ended bytes).end (run_of p size ended bytes).output
made p ok size more ended bytes =
    let c = chopped p ok ended (is_seen size ended bytes) (data_in size bytes) in
    let h = sound p ok c.units 0 (Ok (going p)) (start p) size 0 more ended (is_seen size ended bytes) bytes (data_in size bytes) c.rest refl refl c.full c.ending.last c.ending.more c.ending.end c.ending.ends in
    record {
      frames = map (frames_in p) c.units ++ c.ending.more;
      last = c.ending.last;
      pcm_end = c.ending.end;
      pcm = record {
        units = c.units;
        rest = c.rest;
        more = c.ending.more;
        full = c.full;
        ends = subst (λ (k : ℕ). Ends p k ended (is_seen size ended bytes) c.rest c.ending.more c.ending.last c.ending.end) (let z : 0 + length c.units ≡ length c.units = omega arith in z) c.ending.ends;
        frames_are = refl;
      };
      end_is = h.0;
      output_is = h.1;
    }

-- .. and any answer is that
pub only : (p : Profile) → checked p ≡ Ok tt → (size : Option ℕ) → (size ≡ Some 0 → ⊥) → (ended : Bool) (bytes : List ℕ) (end : Result Unit Stop) (output : List ℕ) → Encoded p size ended bytes end output
    → ((run_of p size ended bytes).end ≡ end) × ((run_of p size ended bytes).output ≡ output)
only p ok size more ended bytes end output x =
    let i = x.pcm in
    let h = sound p ok i.units 0 (Ok (going p)) (start p) size 0 more ended (is_seen size ended bytes) bytes (data_in size bytes) i.rest refl refl i.full x.last i.more x.pcm_end
    (subst (λ (k : ℕ). Ends p k ended (is_seen size ended bytes) i.rest i.more x.last x.pcm_end) (let z : length i.units ≡ 0 + length i.units = omega arith in z) i.ends) in
    let st = λ (fs : List (List (List ℤ))). sent x.last (Ok (going p)) fs in (
      h.0 ∙ ap (λ (fs : List (List (List ℤ))). end_by x.pcm_end (st fs).end) (sym i.frames_are) ∙ sym x.end_is,
      h.1 ∙ ap (λ (fs : List (List (List ℤ))). joined (st fs).units) (sym i.frames_are) ∙ sym x.output_is,
    )

-- where a header states no data, there are none
pub none_made : (p : Profile) (ended : Bool) (bytes : List ℕ) → Encoded p (Some 0) ended bytes (refusing fault.Empty) []
none_made p ended bytes = record {
  frames = [];
  last = false;
  pcm_end = refusing fault.Empty;
  pcm = record {
    units = [];
    rest = [];
    more = [];
    full = record { are = take_none bytes; full = All-nil (IsFull p) };
    ends = empty (seen_none ended) refl refl;
    frames_are = refl;
  };
  end_is = refl;
  output_is = refl;
}
  where
    take_none : (xs : List ℕ) → take 0 xs ≡ []
    take_none [] = refl
    take_none (x ∷ xs) = refl

    seen_none : (b : Bool) → (b || nat_le 0 (length bytes)) ≡ true
    seen_none true = refl
    seen_none false = le-leb 0 (length bytes) (omega arith)
