-- A program as it is loaded.
use Rattle.std.specs.Prelude.{ℕ, List, [], Result, Ok, Err}
use Rattle.image_file.specs.Value.{ImageValue}
use Rattle.kmp_words.specs.declared.input.Loaded.{Loaded}

-- an image, and the lines of its source at which a delay slot has only the first word of an `li` or `la`
pub record LoadedValue : Type 0 where
  pub image : ImageValue
  pub split : List ℕ

abbrev pub value_of : Loaded → LoadedValue
value_of loaded = record { image = loaded.image; split = loaded.split.items }

-- the image of what is loaded, or why there is none
abbrev pub image_in : {E : Type 0} → Result LoadedValue E → Result ImageValue E
image_in (Ok loaded) = Ok loaded.image
image_in (Err fault) = Err fault

-- the lines of what is loaded; a refusal has none
abbrev pub split_in : {E : Type 0} → Result LoadedValue E → List ℕ
split_in (Ok loaded) = loaded.split
split_in (Err fault) = []
