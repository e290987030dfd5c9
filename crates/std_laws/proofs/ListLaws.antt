-- An element of a list by its index, and what holds of each element.
use Rattle.std.proofs.Common.{◌≡◌, ◌≢◌, ◌⊎◌, ℕ, zero, suc, ◌+◌, ◌<◌, List, [], ◌∷◌, ◌++◌, length, drop, refl, ap, sym, subst, ◌∙◌, arith}
use Rattle.std.proofs.Common.{inl, inr, zero-add, ◌*◌, take, get_or, Bool, true, false, cond, append_assoc, length-append}
use Rattle.std.specs.Prelude.{Some, replicate, slice_get, slice_set}
use Rattle.std.specs.List.{AllByRecursion, list_all, filter, count_by, flat_map}
use Rattle.std.proofs.lemmas.Bool.{cases_eq, and_parts}
use Rattle.std.proofs.lemmas.Option.{none-some, same_Some, get_or_from_slice_get, slice_get_within}
use Rattle.std.proofs.lemmas.List.{set-get_or, drop_more, take_more, drop-drop, drop_all, drop_at, take_all, take_at, flat_map_more}
use Rattle.std.proofs.lemmas.List.{take-append-drop}
use Rattle.std.proofs.lemmas.List.Elements.{recursion_from_All, All-replicate}
use Rattle.std.proofs.Math.Nat.{suc-add}
use Rattle.std.proofs.lemmas.List.Concat.{flat_map-append}
use Rattle.std.proofs.lemmas.List.Folds.{list_all-append}
use Rattle.std.proofs.lemmas.List.Sums.{length-filter, sum_by-cons}
use Rattle.std.proofs.Math.Seq.{take-add}

-- ---- an element by its index

pub slice_get_some : {X : Type 0} (xs : List X) (i : ℕ) → i < length xs → (x : X) × (slice_get xs i ≡ Some x)
slice_get_some [] i h = absurd (omega arith)
slice_get_some (x ∷ xs) zero h = (x, refl)
slice_get_some (x ∷ xs) (suc i) h = slice_get_some xs i (omega arith)

pub slice_get-set_same : {X : Type 0} (xs : List X) (i : ℕ) (y : X) → i < length xs → slice_get (slice_set xs i y) i ≡ Some y
slice_get-set_same [] i y h = absurd (omega arith)
slice_get-set_same (x ∷ xs) zero y h = refl
slice_get-set_same (x ∷ xs) (suc i) y h = slice_get-set_same xs i y (omega arith)

pub slice_get-set_other : {X : Type 0} (xs : List X) (i j : ℕ) (y : X) → j ≢ i → slice_get (slice_set xs i y) j ≡ slice_get xs j
slice_get-set_other [] i j y h = refl
slice_get-set_other (x ∷ xs) zero zero y h = absurd (h refl)
slice_get-set_other (x ∷ xs) zero (suc j) y h = refl
slice_get-set_other (x ∷ xs) (suc i) zero y h = refl
slice_get-set_other (x ∷ xs) (suc i) (suc j) y h = slice_get-set_other xs i j y (λ e. h (ap suc e))

pub set-slice_get : {X : Type 0} (xs : List X) (i : ℕ) (x : X) → slice_get xs i ≡ Some x → slice_set xs i x ≡ xs
set-slice_get {X = X} xs i x h = ap (λ (y : X). slice_set xs i y) (sym (get_or_from_slice_get xs i x x h)) ∙ set-get_or xs i x

pub slice_get-append_left : {X : Type 0} (xs ys : List X) (i : ℕ) → i < length xs → slice_get (xs ++ ys) i ≡ slice_get xs i
slice_get-append_left [] ys i h = absurd (omega arith)
slice_get-append_left (x ∷ xs) ys zero h = refl
slice_get-append_left (x ∷ xs) ys (suc i) h = slice_get-append_left xs ys i (omega arith)

pub slice_get_at : {X : Type 0} (p : List X) (y : X) (ys : List X) (n : ℕ) → length p ≡ n → slice_get (p ++ y ∷ ys) n ≡ Some y
slice_get_at [] y ys zero e = refl
slice_get_at [] y ys (suc n) e = absurd (omega (arith, e))
slice_get_at (x ∷ p) y ys zero e = absurd (omega (arith, e))
slice_get_at (x ∷ p) y ys (suc n) e = slice_get_at p y ys n (omega (arith, e))

-- an element of a list with one more is one of the list, or the last
pub slice_get-push_cases : {X : Type 0} (xs : List X) (y : X) (k : ℕ) (x : X) → slice_get (xs ++ y ∷ []) k ≡ Some x
    → ((k < length xs) × (slice_get xs k ≡ Some x)) ⊎ ((k ≡ length xs) × (x ≡ y))
slice_get-push_cases [] y zero x got = inr (refl, sym (same_Some y x got))
slice_get-push_cases [] y (suc k) x got = cc
slice_get-push_cases (a ∷ xs) y zero x got = inl (omega arith, got)
slice_get-push_cases (a ∷ xs) y (suc k) x got =
    elim (slice_get-push_cases xs y k x got) as (λ _. ((suc k < length (a ∷ xs)) × (slice_get (a ∷ xs) (suc k) ≡ Some x))
    ⊎ ((suc k ≡ length (a ∷ xs)) × (x ≡ y))) [
      | inl h ↦ (let lt = h.0 in inl (omega (arith, lt), h.1))
      | inr h ↦ (let is = h.0 in inr (omega (arith, is), h.1))
    ]

pub slice_get-drop : {X : Type 0} (n : ℕ) (xs : List X) (i : ℕ) → slice_get (drop n xs) i ≡ slice_get xs (n + i)
slice_get-drop zero xs i = rw zero-add refl
slice_get-drop (suc n) [] i = refl
slice_get-drop (suc n) (x ∷ xs) i = rw suc-add (slice_get-drop n xs i)

-- the rest of a list begins with the element at its index
pub drop-slice_get : {X : Type 0} (xs : List X) (i : ℕ) (x : X) → slice_get xs i ≡ Some x → drop i xs ≡ x ∷ drop (i + 1) xs
drop-slice_get {X = X} xs i x h =
    drop_more xs i x (slice_get_within xs i x h) ∙ ap (λ (y : X). y ∷ drop (i + 1) xs) (get_or_from_slice_get xs i x x h)

-- what `xs[i]` reads, as the last of a front and as the first of the rest
pub take_more_read : {X : Type 0} (xs : List X) (i : ℕ) (x : X) → i < length xs → x ≡ get_or xs i x → take (i + 1) xs ≡ take i xs ++ x ∷ []
take_more_read {X = X} xs i x h is = take_more xs i x h ∙ ap (λ (y : X). take i xs ++ y ∷ []) (sym is)

pub drop_more_read : {X : Type 0} (xs : List X) (i : ℕ) (x : X) → i < length xs → x ≡ get_or xs i x → drop i xs ≡ x ∷ drop (i + 1) xs
drop_more_read {X = X} xs i x h is = drop_more xs i x h ∙ ap (λ (y : X). y ∷ drop (i + 1) xs) (sym is)

pub same_from_slice_get : {X : Type 0} (xs ys : List X) → length xs ≡ length ys → ((i : ℕ) → slice_get xs i ≡ slice_get ys i) → xs ≡ ys
same_from_slice_get [] [] e h = refl
same_from_slice_get [] (y ∷ ys) e h = absurd (omega arith)
same_from_slice_get (x ∷ xs) [] e h = absurd (omega arith)
same_from_slice_get (x ∷ xs) (y ∷ ys) e h =
    let head : x ≡ y = same_Some x y (h zero) in
    let tail = same_from_slice_get xs ys (omega arith) (λ i. h (suc i)) in
    cc

-- ---- what holds of each element at its index

abbrev pub AtEach : {X : Type 0} → (ℕ → X → Type 0) → List X → Type 0
AtEach {X} P xs = (i : ℕ) (x : X) → slice_get xs i ≡ Some x → P i x

-- after one is set, where what holds of the others follows from what held of them
pub AtEach-set : {X : Type 0} (P Q : ℕ → X → Type 0) (xs : List X) (i : ℕ) (y : X) → i < length xs → Q i y
    → ((k : ℕ) (x : X) → k ≢ i → P k x → Q k x) → AtEach P xs → AtEach Q (slice_set xs i y)
AtEach-set P Q xs i y within here others each k x got =
    elim (cases_eq k i) as (λ _. Q k x) [
      | inl is ↦
          (let same : y ≡ x =
          same_Some y x (sym (slice_get-set_same xs i y within) ∙ (ap (λ n. slice_get (slice_set xs i y) n) (sym is) ∙ got)) in
          subst (λ (n : ℕ). Q n x) (sym is) (subst (λ (z : _). Q i z) same here))
      | inr other ↦ others k x other (each k x (sym (slice_get-set_other xs i k y other) ∙ got))
    ]

pub AtEach-push : {X : Type 0} (P : ℕ → X → Type 0) (xs : List X) (y : X) → AtEach P xs → P (length xs) y → AtEach P (xs ++ y ∷ [])
AtEach-push P [] y each here zero x got = subst (P 0) (same_Some _ _ got) here
AtEach-push P [] y each here (suc i) x got = cc
AtEach-push P (first ∷ xs) y each here zero x got = each zero x got
AtEach-push P (first ∷ xs) y each here (suc i) x got = AtEach-push (λ k. P (suc k)) xs y (λ k. each (suc k)) here i x got

-- each element of a list and the one at its index in another
abbrev pub EachTo : {X Y : Type 0} → (X → Y → Type 0) → List X → List Y → Type 0
EachTo {X} {Y} R xs ys = (i : ℕ) (y : Y) → slice_get ys i ≡ Some y → (x : X) × ((slice_get xs i ≡ Some x) × R x y)

pub EachTo-push : {X Y : Type 0} (R : X → Y → Type 0) (xs : List X) (ys : List Y) (x : X) (y : Y) → length ys ≡ length xs → R x y
    → EachTo R xs ys → EachTo R (xs ++ x ∷ []) (ys ++ y ∷ [])
EachTo-push {X = X} R xs ys x y long here each =
    AtEach-push (λ i b. (a : X) × ((slice_get (xs ++ x ∷ []) i ≡ Some a) × R a b)) ys y
    (λ i b got. let to = each i b got in
    (to.0, (slice_get-append_left xs (x ∷ []) i (slice_get_within xs i to.0 to.1.0) ∙ to.1.0, to.1.1)))
    (x, (slice_get_at xs x [] (length ys) (sym long), here))

-- ---- what holds of all elements

pub AllByRecursion-slice_get : {X : Type 0} (P : X → Type 0) (xs : List X) (i : ℕ) (x : X) → AllByRecursion P xs → slice_get xs i ≡ Some x
    → P x
AllByRecursion-slice_get P [] i x all got = absurd (none-some x got)
AllByRecursion-slice_get P (first ∷ xs) zero x all got = rw (← same_Some first x got) all.0
AllByRecursion-slice_get P (first ∷ xs) (suc i) x all got = AllByRecursion-slice_get P xs i x all.1 got

pub AllByRecursion-set : {X : Type 0} (P : X → Type 0) (xs : List X) (i : ℕ) (y : X) → AllByRecursion P xs → P y
    → AllByRecursion P (slice_set xs i y)
AllByRecursion-set P [] i y all here = all
AllByRecursion-set P (x ∷ xs) zero y all here = (here, all.1)
AllByRecursion-set P (x ∷ xs) (suc i) y all here = (all.0, AllByRecursion-set P xs i y all.1 here)

pub AllByRecursion-append : {X : Type 0} (P : X → Type 0) (xs ys : List X) → AllByRecursion P xs → AllByRecursion P ys
    → AllByRecursion P (xs ++ ys)
AllByRecursion-append P [] ys h k = k
AllByRecursion-append P (x ∷ xs) ys h k = (h.0, AllByRecursion-append P xs ys h.1 k)

pub AllByRecursion-parts : {X : Type 0} (P : X → Type 0) (xs ys : List X) → AllByRecursion P (xs ++ ys)
    → AllByRecursion P xs × AllByRecursion P ys
AllByRecursion-parts P [] ys h = (tt, h)
AllByRecursion-parts P (x ∷ xs) ys h = let others = AllByRecursion-parts P xs ys h.1 in ((h.0, others.0), others.1)

-- on either side of an index
pub AllByRecursion-take_drop : {X : Type 0} (P : X → Type 0) (n : ℕ) (xs : List X) → AllByRecursion P xs → AllByRecursion P (take n xs)
    × AllByRecursion P (drop n xs)
AllByRecursion-take_drop P n xs h =
    AllByRecursion-parts P (take n xs) (drop n xs) (subst (AllByRecursion P) (sym (take-append-drop n xs)) h)

pub AllByRecursion-replicate : {X : Type 0} (P : X → Type 0) (n : ℕ) (x : X) → P x → AllByRecursion P (replicate n x)
AllByRecursion-replicate P n x here = recursion_from_All P (replicate n x) (All-replicate P n x here)

pub AllByRecursion-weaker : {X : Type 0} (P Q : X → Type 0) → ((x : X) → P x → Q x) → (xs : List X) → AllByRecursion P xs
    → AllByRecursion Q xs
AllByRecursion-weaker P Q f [] h = tt
AllByRecursion-weaker P Q f (x ∷ xs) h = (f x h.0, AllByRecursion-weaker P Q f xs h.1)

pub AllByRecursion-cond_cons : {X : Type 0} (P : X → Type 0) (b : Bool) (x : X) (xs : List X) → AllByRecursion P (cond b (x ∷ xs) xs)
    → AllByRecursion P xs
AllByRecursion-cond_cons P true x xs h = h.1
AllByRecursion-cond_cons P false x xs h = h

-- ---- which elements pass a test

pub list_all-weaker : {X : Type 0} (p q : X → Bool) → ((x : X) → p x ≡ true → q x ≡ true) → (xs : List X) → list_all p xs ≡ true
    → list_all q xs ≡ true
list_all-weaker p q implied [] all = refl
list_all-weaker p q implied (x ∷ xs) all =
    let each = and_parts (p x) (list_all p xs) all in
    rw (implied x each.0) (list_all-weaker p q implied xs each.1)

pub list_all-from_recursion : {X : Type 0} (p : X → Bool) (xs : List X) → AllByRecursion (λ x. p x ≡ true) xs → list_all p xs ≡ true
list_all-from_recursion p [] each = refl
list_all-from_recursion p (x ∷ xs) each = rw each.0 (list_all-from_recursion p xs each.1)

pub list_all_both : {X : Type 0} (p : X → Bool) (xs ys : List X) → list_all p xs ≡ true → list_all p ys ≡ true
    → list_all p (xs ++ ys) ≡ true
list_all_both p xs ys first second = rw (list_all-append p xs ys, first, second) refl

pub count_by-cons : {X : Type 0} (p : X → Bool) (x : X) (xs : List X) → count_by p (x ∷ xs) ≡ cond (p x) 1 0 + count_by p xs
count_by-cons {X = X} p x xs = sum_by-cons (λ (y : X). cond (p y) 1 0) x xs

filter-true : {X : Type 0} (xs : List X) → filter (λ x. true) xs ≡ xs
filter-true [] = refl
filter-true (x ∷ xs) = ap (λ ys. x ∷ ys) (filter-true xs)

pub count_by-true : {X : Type 0} (xs : List X) → count_by (λ x. true) xs ≡ length xs
count_by-true xs = sym (length-filter (λ x. true) xs) ∙ ap length (filter-true xs)

-- ---- a piece for each element, one behind another

pub flat_map_around : {X A : Type 0} (f : X → List A) (xs : List X) (x : X) (ys : List X)
    → flat_map f (xs ++ x ∷ ys) ≡ (flat_map f xs ++ f x) ++ flat_map f ys
flat_map_around f xs x ys = flat_map-append f xs (x ∷ ys) ∙ sym (append_assoc (flat_map f xs) (f x) (flat_map f ys))

pub flat_map-take_more : {X A : Type 0} (f : X → List A) (xs : List X) (i : ℕ) (d : X) → i < length xs
    → flat_map f (take (i + 1) xs) ≡ flat_map f (take i xs) ++ f (get_or xs i d)
flat_map-take_more f xs i d below =
    ap (flat_map f) (take_more xs i d below) ∙ sym (flat_map_more f [] (take i xs) (get_or xs i d))

-- ---- pieces of one length

pub length-flat_map_same : {X A : Type 0} (f : X → List A) (n : ℕ) → ((x : X) → length (f x) ≡ n) → (xs : List X)
    → length (flat_map f xs) ≡ n * length xs
length-flat_map_same f n long [] = omega arith
length-flat_map_same f n long (x ∷ xs) =
    let next : n * suc (length xs) ≡ n + n * length xs = omega arith in
    omega (arith, next, length-append (f x) (flat_map f xs), long x, length-flat_map_same f n long xs)

pub drop-drop_multiple : {X : Type 0} (n k : ℕ) (xs : List X) → drop n (drop (n * k) xs) ≡ drop (n * (k + 1)) xs
drop-drop_multiple n k xs =
    let next : n * k + n ≡ n * (k + 1) = omega arith in
    drop-drop n (n * k) xs ∙ ap (λ m. drop m xs) next

pub drop-flat_map : {X A : Type 0} (f : X → List A) (n : ℕ) → ((x : X) → length (f x) ≡ n) → (k : ℕ) (xs : List X)
    → drop (n * k) (flat_map f xs) ≡ flat_map f (drop k xs)
drop-flat_map f n long zero xs = let none : n * zero ≡ zero = omega arith in rw none refl
drop-flat_map f n long (suc k) [] = drop_all (n * suc k) [] (omega arith)
drop-flat_map f n long (suc k) (x ∷ xs) =
    let next : n * suc k ≡ n + n * k = omega arith in
    rw (next, ← drop-drop (n * k) n (f x ++ flat_map f xs), drop_at (f x) (flat_map f xs) n (long x)) (drop-flat_map f n long k xs)

pub take-flat_map : {X A : Type 0} (f : X → List A) (n : ℕ) → ((x : X) → length (f x) ≡ n) → (k : ℕ) (xs : List X)
    → take (n * k) (flat_map f xs) ≡ flat_map f (take k xs)
take-flat_map f n long zero xs = let none : n * zero ≡ zero = omega arith in rw none refl
take-flat_map f n long (suc k) [] = take_all (n * suc k) [] (omega arith)
take-flat_map f n long (suc k) (x ∷ xs) =
    let next : n * suc k ≡ n + n * k = omega arith in
    rw (
      next,
      take-add n (n * k) (f x ++ flat_map f xs),
      take_at (f x) (flat_map f xs) n (long x),
      drop_at (f x) (flat_map f xs) n (long x),
      take-flat_map f n long k xs,
    ) refl

-- ---- a list that is split at two elements

-- the same list before one element and what is behind it, and before another: they are split at one index, or one before the other
abbrev pub SplitCases : {X : Type 0} → List X → X → List X → X → Type 0
SplitCases {X} xs x ys y = ((xs ≡ ys) × (x ≡ y)) ⊎ (((rest : List X) × (ys ≡ xs ++ x ∷ rest)) ⊎ ((rest : List X) × (xs ≡ ys ++ y ∷ rest)))

SplitCases-cons : {X : Type 0} (z : X) (xs ys : List X) (x y : X) → SplitCases xs x ys y → SplitCases (z ∷ xs) x (z ∷ ys) y
SplitCases-cons z xs ys x y (inl (front, here)) = inl (ap (λ zs. z ∷ zs) front, here)
SplitCases-cons z xs ys x y (inr (inl (rest, is))) = inr (inl (rest, ap (λ zs. z ∷ zs) is))
SplitCases-cons z xs ys x y (inr (inr (rest, is))) = inr (inr (rest, ap (λ zs. z ∷ zs) is))

pub split_cases : {X : Type 0} (xs ys : List X) (x y : X) (s t : List X) → xs ++ x ∷ s ≡ ys ++ y ∷ t → SplitCases xs x ys y
split_cases [] [] x y s t same = inl (refl, cc)
split_cases [] (z ∷ ys) x y s t same = inr (inl (ys, cc))
split_cases (z ∷ xs) [] x y s t same = inr (inr (xs, cc))
split_cases (z ∷ xs) (w ∷ ys) x y s t same =
    let head : z ≡ w = cc in
    rw head (SplitCases-cons w xs ys x y (split_cases xs ys x y s t (cc)))
