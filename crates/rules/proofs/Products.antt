-- An entry of a product shows 1 exactly if both factors do at some middle node.
use Prim.Native.Nat.{ℕ, ◌<◌}
use native.Mathlib.Omega.{arith}
use mathlib.Core.Path.{◌≡◌, refl, sym, ◌∙◌}
use mathlib.Core.Bool.{Bool, true, false, ◌&&◌, true≢false, false≢true}
use Rattle.fields.specs.Bounded.{any}
use Rattle.fields.proofs.Bounded.{any_at, any_found}
use Rattle.diagram.proofs.Paths.{both}
use Rattle.rules.specs.declared.Entry.{Entry}
use Rattle.rules.specs.declared.Entry.TheVariants.{Never, Always, Line}
use Rattle.rules.specs.Make.{return, ◌>>=◌, sequence}
use Rattle.rules.specs.Blocks.{Matrix, entry_at, term, is_always, lines_in, joined, product_entry, product}
use Rattle.rules.proofs.Makes.{Ok, ok-return, ok-bind, ok-weaken, ok-both, ok-sequence, ok-table}
use Rattle.rules.proofs.Valuations.{Down, Up, shows}
use Rattle.rules.proofs.Trees.{joined-down, joined-up}
use Rattle.rules.proofs.Terms.{term-always, term-down, term_up, lines-down, lines-up}

none-at : (p : ℕ → Bool) (n : ℕ) → any n p ≡ false → (i : ℕ) → i < n → p i ≡ false
none-at p n e i h = go (p i) refl
  where
    go : (b : Bool) → p i ≡ b → p i ≡ false
    go true q = absurd (true≢false (sym (any_at p n i h q) ∙ e))
    go false q = q

-- Whether the term of middle node w is always, and what an entry of a product comes to.
abbrev pub sure : Matrix → Matrix → ℕ → ℕ → ℕ → Bool
sure left right u v w = is_always (entry_at left u w) && is_always (entry_at right w v)

-- No term is always where no left factor is.
pub none-sure : (middle : ℕ) (left right : Matrix) (u v : ℕ) → any middle (λ w. is_always (entry_at left u w)) ≡ false →
    any middle (sure left right u v) ≡ false
none-sure middle left right u v e = go (any middle (sure left right u v)) refl
  where
    go : (b : Bool) → any middle (sure left right u v) ≡ b → b ≡ false
    go true q =
        let (w, h, a) = any_found (sure left right u v) middle q in
        let (l, r) = both (is_always (entry_at left u w)) (is_always (entry_at right w v)) a in
        absurd (true≢false (sym (any_at (λ w. is_always (entry_at left u w)) middle w h l) ∙ e))
    go false q = refl

module _ (middle : ℕ) (left right : Matrix) (u v : ℕ) where
  pub entry-always : any middle (sure left right u v) ≡ true → product_entry middle left right u v ≡ return Always
  unfolding product_entry
  entry-always e = rw (e, product_entry)

  pub entry-joined : any middle (sure left right u v) ≡ false →
      product_entry middle left right u v
      ≡ (sequence (λ w. term (entry_at left u w) (entry_at right w v)) middle 0 >>= λ ts. joined (lines_in ts))
  unfolding product_entry
  entry-joined e = rw (e, product_entry)

module _ (ν : ℕ → ℕ) where
  always-shows : (t : Entry) → is_always t ≡ true → shows ν t ≡ 1
  always-shows Never a = absurd (false≢true a)
  always-shows Always a = refl
  always-shows (Line x) a = absurd (false≢true a)

  sure-shows : (s t : Entry) → (is_always s && is_always t) ≡ true → (shows ν s ≡ 1) × (shows ν t ≡ 1)
  sure-shows s t a = let (l, r) = both (is_always s) (is_always t) a in (always-shows s l, always-shows t r)

  module _ (middle : ℕ) (left right : Matrix) (u v : ℕ) where
    -- Both factors show 1 at some middle node.
    abbrev pub Through : Type 0
    Through =
        (w : ℕ) × (w < middle) × (shows ν (entry_at left u w) ≡ 1) × (shows ν (entry_at right w v) ≡ 1)

    pub entry-down : Ok (Down ν) (product_entry middle left right u v) (λ t. shows ν t ≡ 1 → Through)
    entry-down = go (any middle (sure left right u v)) refl
      where
        go : (b : Bool) → any middle (sure left right u v) ≡ b →
            Ok (Down ν) (product_entry middle left right u v) (λ t. shows ν t ≡ 1 → Through)
        go true e =
            let (w, h, a) = any_found (sure left right u v) middle e in
            rw (entry-always middle left right u v e)
            (ok-return (λ _. let (l, r) = sure-shows (entry_at left u w) (entry_at right w v) a in (w, h, l, r)))
        go false e =
            rw (entry-joined middle left right u v e)
            (ok-bind (ok-sequence Never _ middle 0 (λ w _ _. term-down ν (entry_at left u w) (entry_at right w v)))
            (λ ts made. ok-weaken (joined-down ν (lines_in ts)) (λ t down s.
            let (w, h, e) = lines-down ν ts (down s) in
            let (l, r) = made.at w w (omega arith) (omega arith) e in
            (w, omega arith, l, r))))

    pub entry-up : Ok (Up ν) (product_entry middle left right u v) (λ t. Through → shows ν t ≡ 1)
    entry-up = go (any middle (sure left right u v)) refl
      where
        go : (b : Bool) → any middle (sure left right u v) ≡ b →
            Ok (Up ν) (product_entry middle left right u v) (λ t. Through → shows ν t ≡ 1)
        go true e = rw (entry-always middle left right u v e) (ok-return (λ _. refl))
        go false e =
            rw (entry-joined middle left right u v e)
            (ok-bind
            (ok-sequence Never _ middle 0 (λ w _ _.
            ok-both (term_up ν (entry_at left u w) (entry_at right w v)) (term-always (Up ν) _ _)))
            (λ ts made. ok-weaken (joined-up ν (lines_in ts)) (λ t up (w, h, l, r).
            let (shown, always) = made.at w w h (omega arith) in
            up (lines-up ν ts w (omega arith) (always ∙ none-at (sure left right u v) middle e w h) (shown l r)))))

  module _ (rows middle columns : ℕ) (left right : Matrix) where
    pub product-down : Ok (Down ν) (product rows middle columns left right)
        (λ m. (u v : ℕ) → u < rows → v < columns → shows ν (entry_at m u v) ≡ 1 → Through middle left right u v)
    unfolding product
    product-down =
        ok-table Never _ {Q = λ u v t. shows ν t ≡ 1 → Through middle left right u v} rows columns (λ u v _ _.
        entry-down middle left right u v)

    pub product-up : Ok (Up ν) (product rows middle columns left right)
        (λ m. (u v : ℕ) → u < rows → v < columns → Through middle left right u v → shows ν (entry_at m u v) ≡ 1)
    unfolding product
    product-up =
        ok-table Never _ {Q = λ u v t. Through middle left right u v → shows ν t ≡ 1} rows columns (λ u v _ _.
        entry-up middle left right u v)
