-- An entry of a product, and a row, as the code makes them: the middle nodes listed, the terms made.
use Rattle.std.specs.Prelude.{ℕ, suc, ◌<◌, ◌≡◌, Bool, ◌&&◌, List, [], ◌∷◌}
use Rattle.fields.specs.Bounded.{any}
use Rattle.rules.specs.declared.Entry.{Entry}
use Rattle.rules.specs.declared.Entry.TheVariants.{Never}
use Rattle.rules.specs.Make.{Make, sequence}
use Rattle.rules.specs.Blocks.{Matrix, entry_at, is_always, term, product_entry}

-- Whether some factor in row u is always.
abbrev pub any_always : ℕ → Matrix → ℕ → Bool
any_always middle left u = any middle (λ w. is_always (entry_at left u w))

-- Whether both factors of a middle node are always.
abbrev pub both_always : Matrix → Matrix → ℕ → ℕ → ℕ → Bool
both_always left right u v w = is_always (entry_at left u w) && is_always (entry_at right w v)

-- The terms of an entry of a product, as they are made.
unfoldable pub terms_of : ℕ → Matrix → Matrix → ℕ → ℕ → Make (List Entry)
terms_of middle left right u v = sequence (λ w. term (entry_at left u w) (entry_at right w v)) middle 0

-- The middle nodes from w on that are listed, upward; where a node is not, its factor in row u is never.
pub data Listed (left : Matrix) (u middle : ℕ) : ℕ → List ℕ → Type 0 where
  ended : {w : ℕ} → w ≡ middle → Listed left u middle w []
  dropped : {w : ℕ} {nodes : List ℕ} → w < middle → entry_at left u w ≡ Never → Listed left u middle (suc w) nodes →
      Listed left u middle w nodes
  taken : {w x : ℕ} {nodes : List ℕ} → w < middle → x ≡ w → Listed left u middle (suc w) nodes →
      Listed left u middle w (x ∷ nodes)

-- A row of a product, as it is made.
unfoldable pub row_of : ℕ → Matrix → Matrix → ℕ → ℕ → Make (List Entry)
row_of middle left right columns u = sequence (product_entry middle left right u) columns 0
