-- What a part of a report is: some values, the rows of each, and what reading gives.
use Rattle.std.specs.Prelude.{◌≡◌, ℕ, List, [], ◌∷◌, ◌++◌, Result, Ok, Err}
use Rattle.row_reader.specs.Rows.{Row, Rows}

-- rows are a front of the rows of a value, and at least one row is missing
pub record Begins {X : Type 0} (Fits : X → Type 0) (spell : X → Rows) (rows : Rows) : Type 0 where
  pub value : X
  pub fits : Fits value
  pub next : Row
  pub more : Rows
  pub are : spell value ≡ rows ++ next ∷ more

-- rows and the rows of a value can go on to the same rows: one of the two is a front of the other
pub record Agrees {X : Type 0} (Fits : X → Type 0) (spell : X → Rows) (rows : Rows) : Type 0 where
  pub value : X
  pub fits : Fits value
  pub here : Rows
  pub there : Rows
  pub are : rows ++ here ≡ spell value ++ there

-- the rows before the stuck ones begin a value, and with the first stuck row they begin none
pub record Stops {X : Type 0} (Fits : X → Type 0) (spell : X → Rows) (rows stuck : Rows) : Type 0 where
  pub front : Rows
  pub are : rows ≡ front ++ stuck
  pub begins : Begins Fits spell front
  pub ends : (row : Row) (more : Rows) → stuck ≡ row ∷ more → Agrees Fits spell (front ++ row ∷ []) → ⊥

-- Reading gives exactly the values whose rows come first, and else stops where no value goes on.
-- There is some value, which stands where rows are missing.
pub record IsPart {X : Type 0} (Fits : X → Type 0) (spell : X → Rows) (read : Rows → Result (X × Rows) Rows) : Type 0 where
  pub takes : (rows rest : Rows) (x : X) → read rows ≡ Ok (x, rest) → Fits x × (rows ≡ spell x ++ rest)
  pub again : (x : X) (rest : Rows) → Fits x → read (spell x ++ rest) ≡ Ok (x, rest)
  pub stops : (rows stuck : Rows) → read rows ≡ Err stuck → Stops Fits spell rows stuck
  pub some : (x : X) × Fits x

-- values of which each fits with the number that follows from the one before it, the first with low
abbrev pub AreFit : {X : Type 0} → (ℕ → X → Type 0) → (X → ℕ) → ℕ → List X → Type 0
AreFit FitsAt next low [] = Unit {0}
AreFit FitsAt next low (x ∷ xs) = FitsAt low x × AreFit FitsAt next (next x) xs

-- one value for each key of a list, which fits with it
abbrev pub EachFits : {A X : Type 0} → (A → X → Type 0) → List A → List X → Type 0
EachFits Fits [] [] = Unit {0}
EachFits Fits [] (x ∷ xs) = ⊥
EachFits Fits (a ∷ more) [] = ⊥
EachFits Fits (a ∷ more) (x ∷ xs) = Fits a x × EachFits Fits more xs

-- the rows of each value by its key, in order
abbrev pub each_spell : {A X : Type 0} → (A → X → Rows) → List A → List X → Rows
each_spell spell (a ∷ more) (x ∷ xs) = spell a x ++ each_spell spell more xs
each_spell spell [] xs = []
each_spell spell (a ∷ more) [] = []
