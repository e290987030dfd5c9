-- The words on items over an append, and what they say of the list of entries.
use Rattle.std.proofs.Common.{◌≡◌, ℕ, Bool, true, false, List, [], ◌∷◌, ◌++◌, length, refl, ap, ◌∙◌, arith, Option, Some, None}
use Rattle.std.specs.Prelude.{◌==◌}
use Rattle.std.proofs.lemmas.Bool.{eq-eqb}
use Rattle.std.proofs.lemmas.Grind.{common_steps}
use Rattle.mips_isa.specs.declared.Kind.{Kind}
use Rattle.access_log.specs.declared.Entry.{Entry}
use Rattle.access_log.specs.declared.Item.{Item}
use Rattle.access_log.specs.declared.Item.TheVariants.{Done, Bus}
use Rattle.access_log.specs.Memory.{after, after_storing, memory_after}
use Rattle.access_log.specs.Replay.{own}
use Rattle.access_log.specs.Items.{entries, transactions, after_items, IsLegal, own_items, if_own}

-- the words over an append
pub entries-append : (xs ys : List Item) → entries (xs ++ ys) ≡ entries xs ++ entries ys
entries-append [] ys = refl
entries-append (Done e ∷ xs) ys = ap (λ es. e ∷ es) (entries-append xs ys)
entries-append (Bus t ∷ xs) ys = entries-append xs ys

pub transactions-append : (xs ys : List Item) → transactions (xs ++ ys) ≡ transactions xs ++ transactions ys
transactions-append [] ys = refl
transactions-append (Done e ∷ xs) ys = transactions-append xs ys
transactions-append (Bus t ∷ xs) ys = ap (λ ts. t ∷ ts) (transactions-append xs ys)

if_own-append : (b : Bool) (e : Entry) (es fs : List Entry) → if_own b e (es ++ fs) ≡ if_own b e es ++ fs
if_own-append true e es fs = refl
if_own-append false e es fs = refl

pub own_items-append : (xs ys : List Item) (c : ℕ) → own_items (xs ++ ys) c ≡ own_items xs c ++ own_items ys c
own_items-append [] ys c = refl
own_items-append (Done e ∷ xs) ys c = rw (own_items-append xs ys c) (if_own-append _ e (own_items xs c) (own_items ys c))
own_items-append (Bus t ∷ xs) ys c = own_items-append xs ys c

pub after_items-append : (mem : List ℕ) (xs ys : List Item) → after_items mem (xs ++ ys) ≡ after_items (after_items mem xs) ys
after_items-append mem [] ys = refl
after_items-append mem (Done e ∷ xs) ys = after_items-append (after mem e) xs ys
after_items-append mem (Bus t ∷ xs) ys = after_items-append mem xs ys

pub IsLegal-append : (mem : List ℕ) (xs ys : List Item) → IsLegal mem xs → IsLegal (after_items mem xs) ys → IsLegal mem (xs ++ ys)
IsLegal-append mem [] ys h k = k
IsLegal-append mem (Done e ∷ xs) ys h k = (h.0, IsLegal-append (after mem e) xs ys h.1 k)
IsLegal-append mem (Bus t ∷ xs) ys h k = IsLegal-append mem xs ys h k

length-after_storing : (mem : List ℕ) (k : Kind) (a : ℕ) (v : Option ℕ) → length (after_storing mem k a v) ≡ length mem
length-after_storing mem k a None = refl
length-after_storing mem k a (Some v) = grind (arith, common_steps)

-- memory keeps its length
pub length-after : (mem : List ℕ) (e : Entry) → length (after mem e) ≡ length mem
unfolding after
length-after mem e = length-after_storing mem e.kind e.addr e.new

pub length-after_items : (mem : List ℕ) (xs : List Item) → length (after_items mem xs) ≡ length mem
length-after_items mem [] = refl
length-after_items mem (Done e ∷ xs) = length-after_items (after mem e) xs ∙ length-after mem e
length-after_items mem (Bus t ∷ xs) = length-after_items mem xs

-- what the list of items says, in words of the list of its entries
own-if : (b : Bool) (e : Entry) (es : List Entry) (c : ℕ) → (e.core == c) ≡ b → own (e ∷ es) c ≡ if_own b e (own es c)
own-if true e es c h = rw h refl
own-if false e es c h = rw h refl

pub own-entries : (xs : List Item) (c : ℕ) → own (entries xs) c ≡ own_items xs c
own-entries [] c = refl
own-entries (Done e ∷ xs) c = own-if (e.core == c) e (entries xs) c refl ∙ ap (λ t. if_own (e.core == c) e t) (own-entries xs c)
own-entries (Bus t ∷ xs) c = own-entries xs c

pub memory_after-entries : (mem : List ℕ) (xs : List Item) → IsLegal mem xs → memory_after (entries xs) mem ≡ Some (after_items mem xs)
unfolding memory_after
memory_after-entries mem [] h = refl
memory_after-entries mem (Done e ∷ xs) h = rw (eq-eqb _ _ h.0) (memory_after-entries (after mem e) xs h.1)
memory_after-entries mem (Bus t ∷ xs) h = memory_after-entries mem xs h
