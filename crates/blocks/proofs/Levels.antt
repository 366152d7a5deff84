-- The matrix of a level: its entries, and that it makes no gate.
use Prim.Native.Nat.{ℕ, zero, suc, ◌<◌}
use mathlib.Core.Path.{◌≡◌, refl, ap, ◌∙◌}
use mathlib.Core.List.{List, [], ◌∷◌}
use lib.ListN.{get_or}
use Rattle.diagram.specs.declared.Diagram.{Diagram}
use Rattle.diagram.specs.Diagram.{width}
use Rattle.fields.specs.Bounded.{listed}
use Rattle.fields.proofs.Listed.{listed_at}
use Rattle.rules.specs.declared.Entry.{Entry}
use Rattle.rules.specs.declared.Entry.TheVariants.{Never}
use Rattle.rules.specs.Make.{Make, return, ◌>>=◌, sequence}
use Rattle.rules.specs.Blocks.{Matrix, entry_at, level_entry, level_matrix}
use Rattle.gates.proofs.Binding.{return-bind, sequence-same}

-- What makes no gate at any place makes none in all.
returns-listed : {A : Type 0} (f : ℕ → A) (count p : ℕ) → sequence (λ v. return (f v)) count p ≡ return (listed f count p)
unfolding sequence listed
returns-listed f zero p = refl
returns-listed f (suc count) p =
    return-bind (f p) (λ a. sequence (λ v. return (f v)) count (suc p) >>= λ rest. return (a ∷ rest))
    ∙ ap (λ (m : Make _). m >>= λ rest. return (f p ∷ rest)) (returns-listed f count (suc p))
    ∙ return-bind (listed f count (suc p)) (λ rest. return (f p ∷ rest))

-- The matrix of a level by its entries.
unfoldable pub level_of : Diagram → ℕ → Matrix
level_of d l = listed (λ u. listed (level_entry d l u) (width d (suc l)) 0) (width d l) 0

pub level-listed : (d : Diagram) (l : ℕ) → level_matrix d l ≡ return (level_of d l)
unfolding level_matrix level_of
level-listed d l =
    sequence-same _ _ (width d l) 0 (λ u _ _. returns-listed (level_entry d l u) (width d (suc l)) 0)
    ∙ returns-listed (λ u. listed (level_entry d l u) (width d (suc l)) 0) (width d l) 0

pub level-at : (d : Diagram) (l u v : ℕ) → u < width d l → v < width d (suc l) → entry_at (level_of d l) u v ≡ level_entry d l u v
unfolding level_of
level-at d l u v hu hv =
    ap (λ (r : List Entry). get_or r v Never) (listed_at (λ u. listed (level_entry d l u) (width d (suc l)) 0) (width d l) u [] hu)
    ∙ listed_at (level_entry d l u) (width d (suc l)) v Never hv
