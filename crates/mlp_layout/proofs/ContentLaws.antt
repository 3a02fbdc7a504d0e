-- What units contain is lawful.
use Rattle.std.proofs.Common.{◌≡◌, ℕ, zero, suc, List, [], ◌∷◌, ◌++◌, Bool, length, Result, Ok, Err, inl, inr, refl, sym, ap}
use Rattle.mlp_syntax.specs.declared.fault.Broken.{Broken}
use Rattle.mlp_layout.specs.Tails.{FoundWhole, SoundWhole, IsWhole}
use Rattle.mlp_layout.specs.Contents.{UnitFault, Contents, FoundIn, nothing, Portion, bits_in, no_segments, with_first, then_others, segment_first, segments, SoundIn, IsContents}

abbrev read_as : {C : Type 0} → C → Result C UnitFault
read_as x = Ok x

pub nothing_is : IsContents nothing
unfolding nothing
nothing_is = record {
  sound = λ text. record { fits = tt; meets = tt };
  found = λ text x f. refl;
  failed = λ text e f. absurd f;
}

pub no_segments_is : {S : Type 0} → IsContents (no_segments {S = S})
unfolding no_segments
no_segments_is = record {
  sound = λ text. record { fits = refl; meets = tt };
  found = λ text ss f. ap read_as (sym f.fits);
  failed = λ text e f. absurd f;
}

module _ {S : Type 0} (substream : ℕ) (p : Portion S) {others : S → Contents (List S)} (h : IsWhole p.text) (k : (s : S) → IsContents (others s)) where
  others_there : (text : List Bool) (s : S) → FoundWhole p.text (bits_in p text) s → (r : Result (List S) UnitFault) → SoundIn (others s) text r → SoundIn (segment_first substream p others) text (with_first s r)
  unfolding segment_first
  others_there text s f (Ok ss) g = record { fits = ((f.fits, f.text_is), g.fits); meets = (f.meets, g.meets) }
  others_there text s f (Err e) g = inr (s, f, g)

  first_there : (text : List Bool) (r : Result S Broken) → SoundWhole p.text (bits_in p text) r → SoundIn (segment_first substream p others) text (then_others substream p.first r (λ s. (others s).read text))
  unfolding segment_first
  first_there text (Ok s) f = others_there text s f ((others s).read text) ((k s).sound text)
  first_there text (Err b) f = inl (b, f, refl)

  first_found : (text : List Bool) (ss : List S) → FoundIn (segment_first substream p others) text ss → (segment_first substream p others).read text ≡ Ok ss
  unfolding segment_first
  first_found text [] f = absurd f.fits
  first_found text (s ∷ ss) f =
      let one = h.found (bits_in p text) s (record { fits = f.fits.0.0; meets = f.meets.0; text_is = f.fits.0.1 }) in
      let two = (k s).found text ss (record { fits = f.fits.1; meets = f.meets.1 }) in
      rw (one, two) refl

  pub segment_first_is : IsContents (segment_first substream p others)
  unfolding segment_first
  segment_first_is = record {
    sound = λ text. first_there text (p.text.read (bits_in p text)) (h.sound (bits_in p text));
    found = first_found;
    failed = λ text e f. elim f [
      | inl g ↦ rw (h.failed (bits_in p text) g.0 g.1, g.2) refl
      | inr g ↦ rw (h.found (bits_in p text) g.0 g.1, (k g.0).failed text e g.2) refl
    ];
  }

pub segments_are : {S : Type 0} (portion : List S → Portion S) → ((before : List S) → IsWhole (portion before).text) → (count : ℕ) (before : List S) → IsContents (segments portion count before)
unfolding segments
segments_are portion h zero before = no_segments_is
segments_are portion h (suc count) before = segment_first_is (length before) (portion before) (h before) (λ s. segments_are portion h count (before ++ s ∷ []))
