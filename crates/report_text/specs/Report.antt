-- A report as contracts see it, and the one of an outcome.
use Rattle.std.specs.Prelude.{ℕ, ◌+◌, ◌*◌, ◌==◌, if◌then◌else◌, List, [], ◌∷◌, length, drop, map}
use Rattle.kmp_base.specs.declared.setup.Setup.{Setup}
use Rattle.image_file.specs.Value.{ImageValue}
use Rattle.access_log.specs.declared.Item.{Item}
use Rattle.timetable.specs.Outcome.{OutcomeValue}
use Rattle.report_rows.specs.declared.MemoryWord.{MemoryWord}
use Rattle.report_rows.specs.Ends.{EndValue, end_value}
use Rattle.right_run.specs.Right.{caches_of}
use Rattle.report_text.specs.Counts.{counts_of}

pub record ReportValue : Type 0 where
  pub setup : Setup
  pub image : ImageValue
  pub items : List Item
  pub cores : List EndValue
  pub words : List MemoryWord
  pub counts : List ℕ

-- The words from an index on that aren't 0, each with its address.
abbrev pub words_from : ℕ → List ℕ → List MemoryWord
words_from index [] = []
words_from index (word ∷ words) =
    if word == 0 then words_from (index + 1) words
    else (record { addr = 4 * index; value = word } ∷ words_from (index + 1) words)

-- The words of a memory behind so many words of code.
abbrev pub words_past : ℕ → List ℕ → List MemoryWord
words_past code memory = words_from code (drop code memory)

-- The report of an outcome.
unfoldable pub report_of : Setup → ImageValue → OutcomeValue → ReportValue
report_of setup image outcome =
    let cores = map end_value outcome.cores in
    record {
      setup = setup;
      image = image;
      items = outcome.items;
      cores = cores;
      words = words_past (length image.code) outcome.words;
      counts = counts_of (caches_of setup) cores outcome.items;
    }
