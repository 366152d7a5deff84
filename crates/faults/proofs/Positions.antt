-- The lines among some terms, by their positions.
use Prim.Native.Nat.{ℕ, zero, suc, ◌<◌}
use native.Mathlib.Omega.{arith}
use mathlib.Core.Path.{◌≡◌, refl, ap}
use mathlib.Core.List.{List, [], ◌∷◌}
use lib.ListN.{length, get_or, take}
use Rattle.rules.specs.declared.Entry.{Entry}
use Rattle.rules.specs.declared.Entry.TheVariants.{Never, Always, Line}
use Rattle.rules.specs.Blocks.{lines_in}

-- The term of the line at position p, and that the term's position tells p.
pub record Term (ts : List Entry) (p : ℕ) : Type 0 where
  pub at : ℕ
  pub inside : at < length ts
  pub line : get_or ts at Never ≡ Line (get_or (lines_in ts) p 0)
  pub before : length (lines_in (take at ts)) ≡ p

pub term_of : (ts : List Entry) (p : ℕ) → p < length (lines_in ts) → Term ts p
term_of [] p h = absurd (omega arith)
term_of (Never ∷ ts) p h =
    let t = term_of ts p h in
    record { at = suc t.at; inside = omega arith; line = t.line; before = t.before }
term_of (Always ∷ ts) p h =
    let t = term_of ts p h in
    record { at = suc t.at; inside = omega arith; line = t.line; before = t.before }
term_of (Line x ∷ ts) zero h = record { at = 0; inside = omega arith; line = refl; before = refl }
term_of (Line x ∷ ts) (suc p) h =
    let t = term_of ts p (omega arith) in
    record { at = suc t.at; inside = omega arith; line = t.line; before = ap suc t.before }

-- The position of the line that is the term at w.
pub line-of : (ts : List Entry) (w x : ℕ) → get_or ts w Never ≡ Line x →
    (p : ℕ) × (p < length (lines_in ts)) × (get_or (lines_in ts) p 0 ≡ x)
line-of [] w x e = absurd (let z : ◌≡◌ {A = ℕ} 0 1 = cc in omega arith)
line-of (Never ∷ ts) zero x e = absurd (let z : ◌≡◌ {A = ℕ} 0 1 = cc in omega arith)
line-of (Never ∷ ts) (suc w) x e = line-of ts w x e
line-of (Always ∷ ts) zero x e = absurd (let z : ◌≡◌ {A = ℕ} 0 1 = cc in omega arith)
line-of (Always ∷ ts) (suc w) x e = line-of ts w x e
line-of (Line z ∷ ts) zero x e = (0, omega arith, cc)
line-of (Line z ∷ ts) (suc w) x e = let (p, h, q) = line-of ts w x e in (suc p, omega arith, q)
