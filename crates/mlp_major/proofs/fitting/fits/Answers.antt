use Rattle.std.proofs.Common.{Bool, List, ℕ, sym, subst, ◌∙◌, arith}
use Rattle.mlp_major.specs.MajorSync.{kind_of, is_long, extension}
use Rattle.mlp_major.proofs.SyncFitting.{fit_of, fit_by}
use Rattle.mlp_major.proofs.fitting.fits.Goals as goal

pub returns-then-not-numbers_fit : goal.returns-then-not-numbers_fit
returns-then-not-numbers_fit c =
    let no = c.if-not-numbers_fit.true in
    (λ t. absurd cc, λ fits. let f = fit_of c.args.major.now fits in sym no ∙ c.numbers_fit.ensures.1 (f.peak, f.substreams, f.carried, f.extended))

pub returns-then-not-format_fits : goal.returns-then-not-format_fits
returns-then-not-format_fits c =
    let no = c.if-not-format_fits.true in
    (λ t. absurd cc, λ fits. let f = fit_of c.args.major.now fits in sym no ∙ c.format_fits.ensures.1 f.format)

pub returns : goal.returns
returns c =
    let m = c.args.major.now in
    let numbers = c.numbers_fit.ensures.0 c.if-not-numbers_fit.false in
    let format = c.format_fits.ensures.0 c.if-not-format_fits.false in
    let bytes = c.deref.ensures.0 in
    let long = c.is_long.ensures in (
      λ t. fit_by m (record {
        format = format;
        flags = omega arith;
        reserved = omega arith;
        peak = numbers.0;
        substreams = numbers.1;
        carried = numbers.2;
        extended = numbers.3;
        info = omega arith;
        extension = subst (λ (bs : List ℕ). (extension (is_long (kind_of m.format) m.meaning)).Fits bs) bytes (subst (λ (b : Bool). (extension b).Fits c.deref.result.now) long (c.extension_fits.ensures.0 t));
      }) (omega arith),
      λ fits. c.extension_fits.ensures.1
          (subst (λ (b : Bool). (extension b).Fits c.deref.result.now) (sym long) (subst (λ (bs : List ℕ). (extension (is_long (kind_of m.format) m.meaning)).Fits bs) (sym bytes) (fit_of m fits).extension)),
    )
