-- What options come to.
use Rattle.std.proofs.Common.{◌≡◌, ℕ, ◌+◌, ◌^◌, ◌<◌, ◌≤◌, Bool, true, false, List, Bor, length, get_or, drop, [], ◌∷◌, Option, Some, None}
use Rattle.std.proofs.Common.{◌⊎◌, option_and_then, option_map, Result, Ok, Err, codes, decimal, refl, sym, ap, ◌∙◌, subst, inl, inr, arith, zero, suc}
use Rattle.kmp_base.specs.Limits.{IsWithinLimits}
use Rattle.kmp_base.specs.Machines.{most_ways}
use Rattle.std.specs.Prelude.{IfSome, is_some, nat_lt, nat_le, ◌&&◌, if◌then◌else◌}
use Rattle.std.specs.Str.{bytes_eq}
use Rattle.std.specs.Str.Parse.{digits_value}
use Rattle.std.specs.Option.{option_len, option_map_or, ok_or}
use Rattle.std.proofs.lemmas.Fmt.{decimal_is_IsNumeral}
use Rattle.std.specs.Prelude.{◌==◌, ◌||◌, not}
use Rattle.std.specs.List.{range_with_len}
use Rattle.std.specs.Int.{is_power_of_two}
use Rattle.std.proofs.lemmas.Bool.{false_from_ne_true, or_cases, and_parts, cases_eq, both_ways, not-true, eqb-true}
use Rattle.kmp_base.specs.declared.setup.MachineKind.{MachineKind}
use Rattle.std.proofs.lemmas.Bool.Decides.{nat_tests}
use Rattle.std.proofs.lemmas.Option.{cond_some, same_Some}
use Rattle.std_laws.proofs.OptionLaws.{option_len_none}
use Rattle.std.proofs.lemmas.Slice.Eq.{bytes_eq-Decides}
use Rattle.std.proofs.lemmas.List.{drop_more}
use Rattle.kmp_base.specs.declared.setup.MachineKind.TheVariants as machines
use Rattle.kmp_base.specs.declared.setup.Turns.TheVariants as turns
use Rattle.kmp_words.specs.declared.program.Program.{Program}
use Rattle.kmp_words.specs.declared.program.Program.TheVariants as programs
use Rattle.kmp_words.specs.declared.options.Command.{Command}
use Rattle.kmp_words.specs.declared.options.Command.TheVariants as commands
use Rattle.kmp_words.specs.declared.input.Input.TheVariants as inputs
use Rattle.kmp_words.specs.declared.options.Options.{Options}
use Rattle.kmp_words.specs.declared.options.OptionName.{OptionName}
use Rattle.kmp_words.specs.declared.options.OptionName.TheVariants as names
use Rattle.kmp_base.specs.Names.{named}
use Rattle.kmp_words.specs.declared.fault.WordFault.{WordFault}
use Rattle.kmp_words.specs.declared.fault.WordCause.TheVariants.{UnknownOption, OptionTwice, BadValue}
use Rattle.kmp_base.specs.Bind.{◌>>=◌}
use Rattle.kmp_words.specs.Words.{name_in, value_in, number_in, lines_of, no_options, options_of, stands_in, with_option, at_word}
use Rattle.kmp_words.specs.Words.{fault_where, option_in, options_from, number_within, sets_in, machine_names, turns_names, or_default, setup_of}
use Rattle.kmp_words.specs.Words.{memory_lines, input_of, order_of, command_names, texts_of, AreTurnsOf, IsProperInput, IsRunnable}

-- a text that isn't a name differs from it
pub differs : (name text : List ℕ) → (text ≡ name → ⊥) → bytes_eq name text ≡ false
differs name text other = false_from_ne_true (bytes_eq name text) (λ is. other (sym ((bytes_eq-Decides name text).0 is)))

-- the spelling of a number spells it
pub number_in_decimal : (text : List ℕ) (n : ℕ) → n < 2 ^ 64 → text ≡ decimal n → number_in text ≡ Some n
number_in_decimal text n fits is = rw (is, (decimal_is_IsNumeral n fits).1, (bytes_eq-Decides (decimal n) (decimal n)).1 refl) refl

-- a text that spells no number of 64 bits has no value, where greater ones have none
no_number : {A : Type 0} (f : ℕ → Option A) (text : List ℕ) → ((number : ℕ) → 2 ^ 64 ≤ number → f number ≡ None)
    → ((n : ℕ) → n < 2 ^ 64 → text ≡ decimal n → ⊥) → option_and_then f (number_in text) ≡ None
no_number f text above none = judged (bytes_eq text (decimal number)) refl (nat_lt number (2 ^ 64)) refl
  where
    number : ℕ
    number = digits_value 10 text

    judged : (t : Bool) → bytes_eq text (decimal number) ≡ t → (u : Bool) → nat_lt number (2 ^ 64) ≡ u
        → option_and_then f (number_in text) ≡ None
    judged false e u g = rw e refl
    judged true e true g = absurd (none number (grind (arith, nat_tests)) (grind (arith, bytes_eq-Decides)))
    judged true e false g = let big : 2 ^ 64 ≤ number = grind (arith, nat_tests) in rw (e, above number big) refl

-- so it spells no memory
pub no_number_in : (text : List ℕ) → ((n : ℕ) → n < 2 ^ 64 → text ≡ decimal n → ⊥) → option_and_then lines_of (number_in text) ≡ None
no_number_in text none = no_number lines_of text (λ number big. grind (arith, nat_tests)) none

-- and no number within bounds of 32 bits
pub no_number_within : (least most : ℕ) (text : List ℕ) → most < 2 ^ 32 → ((n : ℕ) → n < 2 ^ 64 → text ≡ decimal n → ⊥)
    → number_within least most text ≡ None
no_number_within least most text few none =
    no_number (λ number. if nat_le least number && nat_le number most then Some number else None) text (λ number big. above number big) none
  where
    above : (number : ℕ) → 2 ^ 64 ≤ number → (if nat_le least number && nat_le number most then Some number else None) ≡ None
    above number big = grind (arith, nat_tests)

-- how many options stand
abbrev pub count_of : Options → ℕ
count_of options =
    option_len options.machine + option_len options.cores + option_len options.budget + option_len options.turns
    + option_len options.seed + option_len options.sets + option_len options.ways + option_len options.size + option_len options.memory + option_len options.image

one_at_most : {A : Type 0} (option : Option A) → option_len option ≤ 1
one_at_most None = omega arith
one_at_most (Some value) = omega arith

-- no more stand than there are
pub count_few : (options : Options) → count_of options ≤ 10
count_few options =
    omega (
      arith,
      one_at_most options.machine,
      one_at_most options.cores,
      one_at_most options.budget,
      one_at_most options.turns,
      one_at_most options.seed,
      one_at_most options.sets,
      one_at_most options.ways,
      one_at_most options.size,
      one_at_most options.memory,
      one_at_most options.image,
    )

-- an option that has a value is put
record Puts {A : Type 0} (put : A → Options) (value : Option A) (more : Options) : Type 0 where
  it : A
  is : value ≡ Some it
  puts : more ≡ put it

puts_of : {A : Type 0} (put : A → Options) (value : Option A) (more : Options) → option_map put value ≡ Some more → Puts put value more
puts_of put None more is = absurd cc
puts_of put (Some x) more is = record { it = x; is = refl; puts = cc }

with_counts : (options more : Options) (name : OptionName) (word : ℕ) (value : Option (List ℕ)) → stands_in options name ≡ false
    → with_option options name word value ≡ Some more → count_of more ≡ count_of options + 1
with_counts options more names.Machine word (Some text) once is =
    let p = puts_of (λ kind. record options { machine = Some kind }) (named machine_names text) more is in
    let none = option_len_none options.machine once in rw p.puts (omega (arith, none))
with_counts options more names.Cores word (Some text) once is =
    let p = puts_of (λ cores. record options { cores = Some cores }) (number_within 1 8 text) more is in
    let none = option_len_none options.cores once in rw p.puts (omega (arith, none))
with_counts options more names.Budget word (Some text) once is =
    let p = puts_of (λ budget. record options { budget = Some budget }) (number_within 1 100000 text) more is in
    let none = option_len_none options.budget once in rw p.puts (omega (arith, none))
with_counts options more names.Turns word (Some text) once is =
    let p = puts_of (λ order. record options { turns = Some order }) (named turns_names text) more is in
    let none = option_len_none options.turns once in rw p.puts (omega (arith, none))
with_counts options more names.Seed word (Some text) once is =
    let p = puts_of (λ seed. record options { seed = Some seed }) (number_within 0 4294967295 text) more is in
    let none = option_len_none options.seed once in rw p.puts (omega (arith, none))
with_counts options more names.Sets word (Some text) once is =
    let p = puts_of (λ sets. record options { sets = Some sets }) (sets_in text) more is in
    let none = option_len_none options.sets once in rw p.puts (omega (arith, none))
with_counts options more names.Ways word (Some text) once is =
    let p = puts_of (λ ways. record options { ways = Some ways }) (number_within 1 1 text) more is in
    let none = option_len_none options.ways once in rw p.puts (omega (arith, none))
with_counts options more names.Size word (Some text) once is =
    let p = puts_of (λ size. record options { size = Some size }) (number_within 0 1000 text) more is in
    let none = option_len_none options.size once in rw p.puts (omega (arith, none))
with_counts options more names.Memory word (Some text) once is =
    let p = puts_of (λ lines. record options { memory = Some (lines, word) }) (option_and_then lines_of (number_in text)) more is in
    let none = option_len_none options.memory once in rw p.puts (omega (arith, none))
with_counts options more names.Image word None once is =
    let this : more ≡ record options { image = Some word } = cc in
    let none = option_len_none options.image once in rw this (omega (arith, none))
with_counts options more names.Machine word None once is = absurd cc
with_counts options more names.Cores word None once is = absurd cc
with_counts options more names.Budget word None once is = absurd cc
with_counts options more names.Turns word None once is = absurd cc
with_counts options more names.Seed word None once is = absurd cc
with_counts options more names.Sets word None once is = absurd cc
with_counts options more names.Ways word None once is = absurd cc
with_counts options more names.Size word None once is = absurd cc
with_counts options more names.Memory word None once is = absurd cc
with_counts options more names.Image word (Some text) once is = absurd cc

-- options became more by an option that didn't stand
record Adds (word : ℕ) (value : Option (List ℕ)) (options more : Options) : Type 0 where
  name : OptionName
  once : stands_in options name ≡ false
  puts : with_option options name word value ≡ Some more

valued : (word : ℕ) (value : Option (List ℕ)) (options more : Options) (name : OptionName) → stands_in options name ≡ false
    → (put : Option Options) → with_option options name word value ≡ put → ok_or put (at_word BadValue word) ≡ Ok more
    → Adds word value options more
valued word value options more name once None puts is = absurd cc
valued word value options more name once (Some all) puts is = record { name = name; once = once; puts = cc }

adds : (command : Command) (word : ℕ) (text : List ℕ) (options more : Options) → option_in command word text options ≡ Ok more
    → Adds word (value_in text) options more
unfolding option_in
adds command word text options more is = by_option (named (options_of command) (name_in text)) is
  where
    judged : (name : OptionName) (twice : Bool) → stands_in options name ≡ twice
        → (fault_where twice (at_word OptionTwice word) >>= λ _. ok_or (with_option options name word (value_in text))
        (at_word BadValue word)) ≡ Ok more → Adds word (value_in text) options more
    judged name true twice is = absurd cc
    judged name false once is = valued word (value_in text) options more name once (with_option options name word (value_in text)) refl is

    by_option : (found : Option OptionName)
        → (ok_or found (at_word UnknownOption word) >>= λ name. fault_where (stands_in options name) (at_word OptionTwice word) >>= λ _.
        ok_or (with_option options name word (value_in text)) (at_word BadValue word)) ≡ Ok more → Adds word (value_in text) options more
    by_option None is = absurd cc
    by_option (Some name) is = judged name (stands_in options name) refl is

-- each word adds an option
pub counts : (command : Command) (word : ℕ) (text : List ℕ) (options more : Options) → option_in command word text options ≡ Ok more
    → count_of more ≡ count_of options + 1
counts command word text options more is = let a =
    adds command word text options more is in with_counts options more a.name word (value_in text) a.once a.puts

-- ---- powers of two

-- whether it is two to one of some powers
abbrev is_one_of : List ℕ → ℕ → Bool
is_one_of [] n = false
is_one_of (k ∷ ks) n = n == 2 ^ k || is_one_of ks n

abbrev is_listed : ℕ → Bool
is_listed n = is_one_of (range_with_len 0 9) n

listed : (n : ℕ) (ks : List ℕ) → is_one_of ks n ≡ true → (k : ℕ) × (n ≡ 2 ^ k)
listed n [] is = absurd (both_ways false refl is)
listed n (k ∷ ks) is = elim (or_cases (n == 2 ^ k) (is_one_of ks n) is) [
  | inl here ↦ (k, eqb-true n (2 ^ k) here)
  | inr there ↦ listed n ks there
]

-- whether each number below a bound with one bit set is a power of two
abbrev are_listed : ℕ → Bool
are_listed zero = true
are_listed (suc n) = (not (is_power_of_two n) || is_listed n) && are_listed n

all_listed : are_listed 257 ≡ true
unfolding lib.Count.ones
all_listed = refl

listed_below : (bound n : ℕ) → are_listed bound ≡ true → n < bound → is_power_of_two n ≡ true → is_listed n ≡ true
listed_below zero n all below is = absurd (omega arith)
listed_below (suc bound) n all below is =
    let parts = and_parts (not (is_power_of_two bound) || is_listed bound) (are_listed bound) all in
    elim (cases_eq n bound) as (λ _. is_listed n ≡ true) [
      | inl same ↦ elim (or_cases (not (is_power_of_two bound)) (is_listed bound) parts.0) as (λ _. is_listed n ≡ true) [
        | inl isnt ↦ absurd (both_ways (is_power_of_two bound) (not-true (is_power_of_two bound) isnt) (ap is_power_of_two (sym same) ∙ is))
        | inr so ↦ ap is_listed same ∙ so
      ]
      | inr other ↦ listed_below bound n parts.1 (omega arith) is
    ]

-- what may be the sets of a cache
abbrev AreSets : ℕ → Type 0
AreSets sets = ((k : ℕ) × (sets ≡ 2 ^ k)) × (sets ≤ 256)

sets_proper : (number : Option ℕ) (sets : ℕ)
    → option_and_then (λ sets. if is_power_of_two sets then Some sets else None) number ≡ Some sets
    → ((n : ℕ) → number ≡ Some n → (1 ≤ n) × (n ≤ 256)) → AreSets sets
sets_proper None sets is within = absurd cc
sets_proper (Some n) sets is within =
    let parts = cond_some (is_power_of_two n) n sets is in
    let few = (within n refl).1 in
    subst AreSets parts.1 (listed n (range_with_len 0 9) (listed_below 257 n all_listed (omega (arith, few)) parts.0), few)

-- the values of options are within their bounds
pub record AreProper (options : Options) : Type 0 where
  pub cores_are : IfSome options.cores (λ cores. (1 ≤ cores) × (cores ≤ 8))
  pub budget_is : IfSome options.budget (λ budget. (1 ≤ budget) × (budget ≤ 100000))
  pub turns_are : IfSome options.turns (AreTurnsOf programs.Kmp)
  pub sets_are : IfSome options.sets AreSets
  pub ways_are : IfSome options.ways (λ ways. (1 ≤ ways) × (ways ≤ 1))
  pub size_is : IfSome options.size (λ size. size ≤ 1000)
  pub memory_is : IfSome options.memory (λ m. IsProperInput (inputs.Source m.0))

lines_proper : (bytes lines : ℕ) → lines_of bytes ≡ Some lines → IsProperInput (inputs.Source lines)
lines_proper bytes lines is = grind (arith, nat_tests)

memory_proper : (number : Option ℕ) (lines : ℕ) → option_and_then lines_of number ≡ Some lines → IsProperInput (inputs.Source lines)
memory_proper None lines is = absurd cc
memory_proper (Some bytes) lines is = lines_proper bytes lines is

within_bounds : (least most : ℕ) (number : Option ℕ) (n : ℕ)
    → option_and_then (λ number. if nat_le least number && nat_le number most then Some number else None) number ≡ Some n → (least ≤ n)
    × (n ≤ most)
within_bounds least most None n is = absurd cc
within_bounds least most (Some number) n is = grind (arith, nat_tests)

-- the values of a table of two entries
two_values : {T : Type 0} (first second : Bool) (one two other : T)
    → (if first then Some one else if second then Some two else None) ≡ Some other → (other ≡ one) ⊎ (other ≡ two)
two_values true second one two other is = inl (sym (same_Some one other is))
two_values false second one two other is = inr (sym (cond_some second two other is).1)

with_proper : (options more : Options) (name : OptionName) (word : ℕ) (value : Option (List ℕ))
    → with_option options name word value ≡ Some more → AreProper options → AreProper more
with_proper options more names.Machine word (Some text) is before =
    let p = puts_of (λ kind. record options { machine = Some kind }) (named machine_names text) more is in
    rw p.puts (record {
      cores_are = before.cores_are;
      budget_is = before.budget_is;
      turns_are = before.turns_are;
      sets_are = before.sets_are;
      ways_are = before.ways_are;
      size_is = before.size_is;
      memory_is = before.memory_is;
    })
with_proper options more names.Cores word (Some text) is before =
    let p = puts_of (λ cores. record options { cores = Some cores }) (number_within 1 8 text) more is in
    rw p.puts (record {
      cores_are = within_bounds 1 8 (number_in text) p.it p.is;
      budget_is = before.budget_is;
      turns_are = before.turns_are;
      sets_are = before.sets_are;
      ways_are = before.ways_are;
      size_is = before.size_is;
      memory_is = before.memory_is;
    })
with_proper options more names.Budget word (Some text) is before =
    let p = puts_of (λ budget. record options { budget = Some budget }) (number_within 1 100000 text) more is in
    rw p.puts (record {
      cores_are = before.cores_are;
      budget_is = within_bounds 1 100000 (number_in text) p.it p.is;
      turns_are = before.turns_are;
      sets_are = before.sets_are;
      ways_are = before.ways_are;
      size_is = before.size_is;
      memory_is = before.memory_is;
    })
with_proper options more names.Turns word (Some text) is before =
    let p = puts_of (λ order. record options { turns = Some order }) (named turns_names text) more is in
    rw p.puts (record {
      cores_are = before.cores_are;
      budget_is = before.budget_is;
      turns_are = two_values _ _ turns.Round turns.Seeded p.it p.is;
      sets_are = before.sets_are;
      ways_are = before.ways_are;
      size_is = before.size_is;
      memory_is = before.memory_is;
    })
with_proper options more names.Seed word (Some text) is before =
    let p = puts_of (λ seed. record options { seed = Some seed }) (number_within 0 4294967295 text) more is in
    rw p.puts (record {
      cores_are = before.cores_are;
      budget_is = before.budget_is;
      turns_are = before.turns_are;
      sets_are = before.sets_are;
      ways_are = before.ways_are;
      size_is = before.size_is;
      memory_is = before.memory_is;
    })
with_proper options more names.Sets word (Some text) is before =
    let p = puts_of (λ sets. record options { sets = Some sets }) (sets_in text) more is in
    rw p.puts (record {
      cores_are = before.cores_are;
      budget_is = before.budget_is;
      turns_are = before.turns_are;
      sets_are = sets_proper (number_within 1 256 text) p.it p.is (within_bounds 1 256 (number_in text));
      ways_are = before.ways_are;
      size_is = before.size_is;
      memory_is = before.memory_is;
    })
with_proper options more names.Ways word (Some text) is before =
    let p = puts_of (λ ways. record options { ways = Some ways }) (number_within 1 1 text) more is in
    rw p.puts (record {
      cores_are = before.cores_are;
      budget_is = before.budget_is;
      turns_are = before.turns_are;
      sets_are = before.sets_are;
      ways_are = within_bounds 1 1 (number_in text) p.it p.is;
      size_is = before.size_is;
      memory_is = before.memory_is;
    })
with_proper options more names.Size word (Some text) is before =
    let p = puts_of (λ size. record options { size = Some size }) (number_within 0 1000 text) more is in
    rw p.puts (record {
      cores_are = before.cores_are;
      budget_is = before.budget_is;
      turns_are = before.turns_are;
      sets_are = before.sets_are;
      ways_are = before.ways_are;
      size_is = (within_bounds 0 1000 (number_in text) p.it p.is).1;
      memory_is = before.memory_is;
    })
with_proper options more names.Memory word (Some text) is before =
    let p = puts_of (λ lines. record options { memory = Some (lines, word) }) (option_and_then lines_of (number_in text)) more is in
    rw p.puts (record {
      cores_are = before.cores_are;
      budget_is = before.budget_is;
      turns_are = before.turns_are;
      sets_are = before.sets_are;
      ways_are = before.ways_are;
      size_is = before.size_is;
      memory_is = memory_proper (number_in text) p.it p.is;
    })
with_proper options more names.Image word None is before =
    let this : more ≡ record options { image = Some word } = cc in
    rw this (record {
      cores_are = before.cores_are;
      budget_is = before.budget_is;
      turns_are = before.turns_are;
      sets_are = before.sets_are;
      ways_are = before.ways_are;
      size_is = before.size_is;
      memory_is = before.memory_is;
    })
with_proper options more names.Machine word None is before = absurd cc
with_proper options more names.Cores word None is before = absurd cc
with_proper options more names.Budget word None is before = absurd cc
with_proper options more names.Turns word None is before = absurd cc
with_proper options more names.Seed word None is before = absurd cc
with_proper options more names.Sets word None is before = absurd cc
with_proper options more names.Ways word None is before = absurd cc
with_proper options more names.Size word None is before = absurd cc
with_proper options more names.Memory word None is before = absurd cc
with_proper options more names.Image word (Some text) is before = absurd cc

step_proper : (command : Command) (word : ℕ) (text : List ℕ) (options more : Options) (texts : List (List ℕ))
    → ((next : Options) → options_from command (word + 1) next texts ≡ Ok more → AreProper next → AreProper more)
    → (here : Result Options WordFault) → option_in command word text options ≡ here
    → (here >>= λ next. options_from command (word + 1) next texts) ≡ Ok more → AreProper options → AreProper more
step_proper command word text options more texts others (Err fault) put is before = absurd cc
step_proper command word text options more texts others (Ok next) put is before =
    let a = adds command word text options next put in others next is (with_proper options next a.name word (value_in text) a.puts before)

from_proper : (command : Command) (word : ℕ) (options more : Options) (texts : List (List ℕ))
    → options_from command word options texts ≡ Ok more → AreProper options → AreProper more
unfolding options_from
from_proper command word options more [] is before = let same : options ≡ more = cc in rw (← same) before
from_proper command word options more (text ∷ texts) is before =
    step_proper command word text options more texts (λ next. from_proper command (word + 1) next more texts)
    (option_in command word text options) refl is before

-- the options of a command line have a proper memory
pub options_proper : (command : Command) (texts : List (List ℕ)) (options : Options) → options_from command 2 no_options texts ≡ Ok options
    → AreProper options
options_proper command texts options is =
    from_proper command 2 no_options options texts is
    (record { cores_are = tt; budget_is = tt; turns_are = tt; sets_are = tt; ways_are = tt; size_is = tt; memory_is = tt })

lines_within : (memory : Option (ℕ × ℕ)) → IfSome memory (λ m. IsProperInput (inputs.Source m.0))
    → IsProperInput (inputs.Source (option_map_or (λ m. m.0) memory 8192))
lines_within None proper = (omega arith, omega arith)
lines_within (Some m) proper = proper

input_proper : (image : Option ℕ) (lines : ℕ) → IsProperInput (inputs.Source lines)
    → IsProperInput (if is_some image then inputs.Image else inputs.Source lines)
input_proper None lines proper = proper
input_proper (Some word) lines proper = tt

-- what holds of an option's value and of the default holds of what is meant
meant : {A : Type 0} (P : A → Type 0) (default : A) (option : Option A) → P default → IfSome option P → P (or_default default option)
meant P default None here there = here
meant P default (Some x) here there = there

setup_limits : (options : Options) → AreProper options → IsWithinLimits (setup_of options)
setup_limits options proper =
    let cores = meant (λ n. (1 ≤ n) × (n ≤ 8)) 1 options.cores (omega arith, omega arith) proper.cores_are in
    let budget = meant (λ n. (1 ≤ n) × (n ≤ 100000)) 20000 options.budget (omega arith, omega arith) proper.budget_is in
    let sets = meant AreSets 16 options.sets ((4, refl), omega arith) proper.sets_are in
    let ways = meant (λ n. (1 ≤ n) × (n ≤ 1)) 1 options.ways (omega arith, omega arith) proper.ways_are in
    record {
      some_cores = cores.0;
      cores = cores.1;
      some_budget = budget.0;
      budget = budget.1;
      power_of_two = sets.0;
      sets = sets.1;
      some_ways = ways.0;
      ways = omega (arith, ways.1);
    }

one_way_at_most : (machine : MachineKind) (ways : ℕ) → ways ≤ 1 → ways ≤ most_ways machine
one_way_at_most machines.Full ways few = few
one_way_at_most machines.Plain ways few = omega arith
one_way_at_most machines.Pipe ways few = omega arith

setup_ways : (options : Options) → AreProper options → (setup_of options).ways ≤ most_ways (setup_of options).machine
setup_ways options proper =
    one_way_at_most (setup_of options).machine (setup_of options).ways
    (meant (λ n. (1 ≤ n) × (n ≤ 1)) 1 options.ways (omega arith, omega arith) proper.ways_are).1

input_is_proper : (options : Options) → AreProper options → IsProperInput (input_of options)
input_is_proper options proper = input_proper options.image (memory_lines options) (lines_within options.memory proper.memory_is)

-- the commands of each program
abbrev IsOf : Program → Command → Type 0
IsOf programs.Kmp commands.RunOnThreads = ⊥
IsOf programs.Kmp other = Unit {0}
IsOf programs.KmpMp commands.RunOnThreads = Unit {0}
IsOf programs.KmpMp other = ⊥

pub named_is_of : (program : Program) (text : List ℕ) (command : Command) → named (command_names program) text ≡ Some command
    → IsOf program command
named_is_of programs.Kmp text command is =
    by_tests (bytes_eq (codes "run") text) (bytes_eq (codes "asm") text) (bytes_eq (codes "replay") text) (bytes_eq (codes "trial") text)
    command is
  where
    by_tests : (run asm replay trial : Bool) (command : Command)
        → (if run then Some commands.Run else if asm then Some commands.Asm else if replay then Some commands.Replay
        else if trial then Some commands.Trial else None) ≡ Some command → IsOf programs.Kmp command
    by_tests run asm replay trial commands.Run is = tt
    by_tests run asm replay trial commands.Asm is = tt
    by_tests run asm replay trial commands.Replay is = tt
    by_tests run asm replay trial commands.Trial is = tt
    by_tests true asm replay trial commands.RunOnThreads is = absurd cc
    by_tests false true replay trial commands.RunOnThreads is = absurd cc
    by_tests false false true trial commands.RunOnThreads is = absurd cc
    by_tests false false false true commands.RunOnThreads is = absurd cc
    by_tests false false false false commands.RunOnThreads is = absurd cc
named_is_of programs.KmpMp text command is =
    subst (IsOf programs.KmpMp) (cond_some (bytes_eq (codes "run") text) commands.RunOnThreads command is).1 tt

-- what a program's command with such options asks for can be carried out
pub order_runnable : (program : Program) (command : Command) (options : Options) → IsOf program command → AreProper options
    → IsRunnable program (order_of command options)
order_runnable programs.Kmp commands.Run options is proper = (
  record {
    limits = setup_limits options proper;
    ways = setup_ways options proper;
    turns = meant (AreTurnsOf programs.Kmp) turns.Round options.turns (inl refl) proper.turns_are;
  },
  input_is_proper options proper,
)
order_runnable programs.KmpMp commands.RunOnThreads options is proper = (
  record {
    limits = let limits = setup_limits options proper in record {
      some_cores = limits.some_cores;
      cores = limits.cores;
      some_budget = limits.some_budget;
      budget = limits.budget;
      power_of_two = limits.power_of_two;
      sets = limits.sets;
      some_ways = limits.some_ways;
      ways = limits.ways;
    };
    ways = setup_ways options proper;
    turns = refl;
  },
  input_is_proper options proper,
)
order_runnable programs.Kmp commands.Asm options is proper = lines_within options.memory proper.memory_is
order_runnable programs.Kmp commands.Replay options is proper = tt
order_runnable programs.Kmp commands.Trial options is proper = (
  record {
    limits = setup_limits options proper;
    ways = setup_ways options proper;
    turns = meant (AreTurnsOf programs.Kmp) turns.Round options.turns (inl refl) proper.turns_are;
  },
  meant (λ size. size ≤ 1000) 100 options.size (omega arith) proper.size_is,
)
order_runnable programs.Kmp commands.RunOnThreads options is proper = absurd is
order_runnable programs.KmpMp commands.Run options is proper = absurd is
order_runnable programs.KmpMp commands.Asm options is proper = absurd is
order_runnable programs.KmpMp commands.Replay options is proper = absurd is
order_runnable programs.KmpMp commands.Trial options is proper = absurd is

-- the options behind a word
pub options_go_on : (command : Command) (word : ℕ) (options next : Options) (texts : List (Bor (List ℕ))) (i : ℕ) (d : Bor (List ℕ))
    → i < length texts → option_in command word (get_or texts i d).now options ≡ Ok next
    → options_from command word options (texts_of (drop i texts)) ≡ options_from command (word + 1) next (texts_of (drop (i + 1) texts))
unfolding options_from
options_go_on command word options next texts i d within put = rw (drop_more texts i d within, put) refl
