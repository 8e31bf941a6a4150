-- The worked values by computing, the agreements by the formula. Assumes nothing.
use mathlib.Core.Path.{◌≡◌, refl, ap, ◌∙◌}
use Prim.Native.Nat.{ℕ}
use Rattle.division.specs.declared.Division.{Division}
use Rattle.division.specs.Dividing.{Divided, division, allowed, formula}
use Rattle.std.specs.declared.result.Result.TheVariants.{Ok}
use Rattle.division.specs.Rows.{EachValue, EachAgreement, EachOther}
use Rattle.division.proofs.Formula.{by_formula, allowed_are}

pub each_value : EachValue
each_value = (refl, (refl, (refl, (refl, (refl, (refl, (refl, (refl, (refl, (refl, (refl, (refl, (refl, (refl, (refl, (refl, (refl, tt)))))))))))))))))

-- f by the bits, and the counts by the formula
of_bits : (formats : ℕ) {f : ℕ} → allowed formats ≡ f → (allowed formats ≡ f) × ◌≡◌ {A = Divided} (Ok (division formats)) (Ok (formula f))
of_bits formats e = (e, ap (λ (d : Division). Ok d) (by_formula formats ∙ ap formula e))

pub each_agreement : EachAgreement
each_agreement =
    (of_bits 0x0006 (allowed_are 0x0006), (of_bits 0x0002 (allowed_are 0x0002), (of_bits 0x0004 (allowed_are 0x0004), (of_bits 0x0000 (allowed_are 0x0000), tt))))

pub each_other : EachOther
each_other = (refl, (refl, (refl, (refl, (refl, tt)))))
