-- The rows of refusals: a number, a name, and the place of the fault.
use Rattle.std.specs.Prelude.{ℕ, List, [], ◌∷◌, codes, decimal}
use Rattle.kmp_base.specs.Rows.{row_text}
use Rattle.image_file.specs.declared.fault.ImageCause.{ImageCause}
use Rattle.image_file.specs.declared.fault.ImageCause.TheVariants as images
use Rattle.asm_token.specs.declared.fault.AsmCause.{AsmCause}
use Rattle.asm_token.specs.declared.fault.AsmCause.TheVariants as sources
use Rattle.kmp_words.specs.declared.fault.WordCause.{WordCause}
use Rattle.kmp_words.specs.declared.fault.WordCause.TheVariants as words
use Rattle.kmp_words.specs.declared.fault.WordFault.{WordFault}
use Rattle.kmp_words.specs.declared.input.Refusal.{Refusal}
use Rattle.kmp_words.specs.declared.input.Refusal.TheVariants as refusals

abbrev pub refused_row : ℕ → List ℕ → List ℕ → ℕ → List ℕ
refused_row number name kind place =
    row_text (codes "refused" ∷ decimal number ∷ name ∷ kind ∷ decimal place ∷ [])

-- the words of the command line
abbrev pub word_row : WordFault → List ℕ
word_row fault = refused_row (number_of fault.cause) (name_of fault.cause) (codes "word") fault.word
  where
    number_of : WordCause → ℕ
    number_of (words.NoCommand program) = 20
    number_of (words.UnknownCommand program) = 21
    number_of words.UnknownOption = 22
    number_of words.OptionTwice = 23
    number_of words.BadValue = 24
    number_of words.Excluded = 25

    name_of : WordCause → List ℕ
    name_of (words.NoCommand program) = codes "NoCommand"
    name_of (words.UnknownCommand program) = codes "UnknownCommand"
    name_of words.UnknownOption = codes "UnknownOption"
    name_of words.OptionTwice = codes "OptionTwice"
    name_of words.BadValue = codes "BadValue"
    name_of words.Excluded = codes "Excluded"

-- an assembler source
abbrev pub source_row : AsmCause → ℕ → List ℕ
source_row cause line = refused_row (number_of cause) (name_of cause) (codes "line") line
  where
    number_of : AsmCause → ℕ
    number_of sources.BadByte = 1
    number_of sources.UnknownName = 2
    number_of sources.BadOperand = 3
    number_of sources.Range = 4
    number_of sources.LabelTwice = 5
    number_of sources.LabelMissing = 6
    number_of sources.NoCode = 7
    number_of sources.TooMuch = 8

    name_of : AsmCause → List ℕ
    name_of sources.BadByte = codes "BadByte"
    name_of sources.UnknownName = codes "UnknownName"
    name_of sources.BadOperand = codes "BadOperand"
    name_of sources.Range = codes "Range"
    name_of sources.LabelTwice = codes "LabelTwice"
    name_of sources.LabelMissing = codes "LabelMissing"
    name_of sources.NoCode = codes "NoCode"
    name_of sources.TooMuch = codes "TooMuch"

-- an image
abbrev pub image_row : ImageCause → ℕ → List ℕ
image_row cause byte = refused_row (number_of cause) (name_of cause) (codes "byte") byte
  where
    number_of : ImageCause → ℕ
    number_of images.BadMagic = 10
    number_of images.Truncated = 11
    number_of images.OddCode = 12
    number_of images.BadWord = 13
    number_of images.Overlap = 14
    number_of images.DoesNotFit = 15
    number_of images.Trailing = 16

    name_of : ImageCause → List ℕ
    name_of images.BadMagic = codes "BadMagic"
    name_of images.Truncated = codes "Truncated"
    name_of images.OddCode = codes "OddCode"
    name_of images.BadWord = codes "BadWord"
    name_of images.Overlap = codes "Overlap"
    name_of images.DoesNotFit = codes "DoesNotFit"
    name_of images.Trailing = codes "Trailing"

-- an input of more bytes than a limit
abbrev pub too_long_row : ℕ → List ℕ
too_long_row limit = refused_row 9 (codes "TooLong") (codes "byte") limit

-- a text that is no report
abbrev pub bad_row : ℕ → List ℕ
bad_row line = refused_row 30 (codes "BadRow") (codes "line") line

-- an input that means no image
abbrev pub refusal_row : Refusal → List ℕ
refusal_row (refusals.TooLong limit) = too_long_row limit
refusal_row (refusals.Asm cause line) = source_row cause line
refusal_row (refusals.Image cause byte) = image_row cause byte
