-- Options that are made of others.
use Rattle.std.proofs.Common.{◌≡◌, ℕ, List, ◌++◌, refl, sym, ap, append_assoc}
use Rattle.std.specs.Prelude.{Bool, true, false, cond, Option, Some, None, is_some}
use Rattle.std.specs.Option.{option_and_then, option_map, option_flatten, unwrap_or, option_len, is_none}
use Rattle.std.specs.Io.KnownBytes.{append_known, prepend_known}
use Rattle.std.proofs.lemmas.Option.{none-some, same_Some}

-- ---- one after another

pub option_and_then-Some : {A : Type 0} (o : Option A) → option_and_then Some o ≡ o
option_and_then-Some None = refl
option_and_then-Some (Some x) = refl

pub option_and_then-assoc : {A B C : Type 0} (f : A → Option B) (g : B → Option C) (o : Option A)
    → option_and_then g (option_and_then f o) ≡ option_and_then (λ x. option_and_then g (f x)) o
option_and_then-assoc f g None = refl
option_and_then-assoc f g (Some x) = refl

pub option_and_then-same : {A B : Type 0} (f g : A → Option B) → ((x : A) → f x ≡ g x) → (o : Option A)
    → option_and_then f o ≡ option_and_then g o
option_and_then-same f g same None = refl
option_and_then-same f g same (Some x) = same x

pub option_flatten-unwrap_or : {A : Type 0} (o : Option (Option A)) → option_flatten o ≡ unwrap_or o None
option_flatten-unwrap_or None = refl
option_flatten-unwrap_or (Some o) = refl

-- ---- what an option is made of, where it is some

pub option_and_then_parts : {A B : Type 0} (f : A → Option B) (o : Option A) (y : B) → option_and_then f o ≡ Some y
    → (x : A) × (o ≡ Some x) × (f x ≡ Some y)
option_and_then_parts f None y h = absurd (none-some y h)
option_and_then_parts f (Some x) y h = (x, refl, h)

pub option_map_parts : {A B : Type 0} (f : A → B) (o : Option A) (y : B) → option_map f o ≡ Some y → (x : A) × (o ≡ Some x) × (f x ≡ y)
option_map_parts f None y h = absurd (none-some y h)
option_map_parts f (Some x) y h = (x, refl, same_Some (f x) y h)

pub cond_some_parts : {A : Type 0} (b : Bool) (o : Option A) (y : A) → cond b o None ≡ Some y → (b ≡ true) × (o ≡ Some y)
cond_some_parts true o y h = (refl, h)
cond_some_parts false o y h = absurd (none-some y h)

-- ---- what an option is made of, where it is none

pub option_map_none : {A B : Type 0} (f : A → B) (o : Option A) → option_map f o ≡ None → o ≡ None
option_map_none f None h = refl
option_map_none f (Some x) h = absurd (none-some (f x) (sym h))

pub cond_none_parts : {A : Type 0} (b : Bool) (x : A) (o : Option A) → cond b (Some x) o ≡ None → (b ≡ false) × (o ≡ None)
cond_none_parts true x o h = absurd (none-some x (sym h))
cond_none_parts false x o h = (refl, h)

pub none_from_is_some : {A : Type 0} (o : Option A) → is_some o ≡ false → o ≡ None
none_from_is_some None h = refl
none_from_is_some (Some x) h = cc

pub none_from_is_none : {A : Type 0} (o : Option A) → is_none o ≡ true → o ≡ None
none_from_is_none None h = refl
none_from_is_none (Some x) h = cc

pub none_from_no_some : {A : Type 0} (o : Option A) → ((x : A) → o ≡ Some x → ⊥) → o ≡ None
none_from_no_some None h = refl
none_from_no_some (Some x) h = absurd (h x refl)

-- ---- of two values that aren't both wanted, either may be tried first

pub cond_some-comm : {A : Type 0} (first second : Bool) (x y : A) (o : Option A) → (second ≡ true → first ≡ false)
    → cond first (Some x) (cond second (Some y) o) ≡ cond second (Some y) (cond first (Some x) o)
cond_some-comm first false x y o apart = refl
cond_some-comm first true x y o apart = rw (apart refl) refl

-- ---- how many values it holds

pub option_len-map : {A B : Type 0} (f : A → B) (o : Option A) → option_len (option_map f o) ≡ option_len o
option_len-map f None = refl
option_len-map f (Some x) = refl

pub option_len_none : {A : Type 0} (o : Option A) → is_some o ≡ false → option_len o ≡ 0
option_len_none o h = ap option_len (none_from_is_some o h)

-- ---- bytes that may be known

pub append_known-append : (known : Option (List ℕ)) (a b : List ℕ) → append_known (append_known known a) b ≡ append_known known (a ++ b)
append_known-append None a b = refl
append_known-append (Some xs) a b = ap Some (append_assoc xs a b)

pub prepend_known-prepend : (known : Option (List ℕ)) (a b : List ℕ)
    → prepend_known a (prepend_known b known) ≡ prepend_known (a ++ b) known
prepend_known-prepend None a b = refl
prepend_known-prepend (Some xs) a b = ap Some (sym (append_assoc a b xs))
