use Rattle.std.proofs.Common.{◌≡◌, Bool, sym, subst}
use Rattle.mlp_substream.specs.Segment.{segment}
use Rattle.mlp_substream.proofs.RoundTrip.{is_checked, found_there}
use Rattle.mlp_substream.proofs.laws.law_reread.Goals as goal

pub returns-clause-fits : goal.returns-clause-fits
returns-clause-fits c = λ place known force checked text s e.
    let found = found_there place known force checked text s e in
    subst (λ (b : Bool). (segment place known force b).Fits s) (sym (is_checked place known force checked s found.fits)) found.fits

pub returns-clause-meets : goal.returns-clause-meets
returns-clause-meets c = λ place known force checked text s e.
    let found = found_there place known force checked text s e in
    subst (λ (b : Bool). (segment place known force b).Meets s) (sym (is_checked place known force checked s found.fits)) found.meets

pub returns-clause-bits : goal.returns-clause-bits
returns-clause-bits c = λ place known force checked text s e.
    let found = found_there place known force checked text s e in
    subst (λ (b : Bool). (segment place known force b).spelling s ≡ text) (sym (is_checked place known force checked s found.fits)) (sym found.text_is)
