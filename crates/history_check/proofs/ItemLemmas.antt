-- One item more, and the first that differs.
use Rattle.std.proofs.Common.{◌≡◌, ℕ, suc, ◌+◌, ◌<◌, List, [], ◌∷◌, ◌++◌, take, drop, length}
use Rattle.std.proofs.Common.{get_or, inl, inr, refl, sym, ap, ◌∙◌, arith, subst}
use Rattle.std.specs.Prelude.{Option, Some, None}
use Rattle.std.specs.Option.{option_and_then}
use Rattle.std.proofs.lemmas.List.{length-take}
use Rattle.std.proofs.Math.Seq.{split_at}
use Rattle.std_laws.proofs.OptionLaws.{option_and_then-Some}
use Rattle.kmp_base.specs.declared.setup.Setup.{Setup}
use Rattle.kmp_base.specs.declared.setup.MachineKind.{MachineKind}
use Rattle.kmp_base.specs.declared.setup.MachineKind.TheVariants.{Plain, Pipe, Full}
use Rattle.image_file.specs.Value.{ImageValue, code_lines}
use Rattle.access_log.specs.declared.Entry.{Entry}
use Rattle.access_log.specs.declared.Item.{Item}
use Rattle.access_log.specs.declared.Item.TheVariants.{Done, Bus}
use Rattle.access_log.specs.Items.{entries, transactions}
use Rattle.access_log.specs.Replay.{FlatMachine, entered, entered_all}
use Rattle.access_log.proofs.ItemLaws.{entries-append}
use Rattle.access_log.proofs.ReplayLaws.{entered_all-append}
use Rattle.seq_machine.specs.declared.Differs.{Differs}
use Rattle.letters.specs.Caches.{Caches, moesi, all_with}
use Rattle.letters.specs.Fold.{no_letters, letters_after}
use Rattle.letters.proofs.LetterLaws.{letters_after-append, FollowsFrom-append}
use Rattle.item_check.specs.declared.Illegal.{Illegal}
use Rattle.item_check.specs.Illegal.{IsOfCores}
use Rattle.item_check.specs.Held.{HeldLetters, letters_of}
use Rattle.item_check.proofs.IllegalLaws.{illegal-not_allowed}
use Rattle.report_rows.specs.Bounds.{IsItem}
use Rattle.right_run.specs.Right.{caches_of, FollowsOn}
use Rattle.row_check.specs.declared.difference.Difference.{Difference}
use Rattle.history_check.specs.History.{HistoryIsRight, HistoryDiffers, ItemDiffers, illegal_behind, illegal_on, kept_in}
use Rattle.history_check.specs.Checks.{IsNotMade, illegal_by, AreNext, AreAfter}

-- ---- one item

pub not_made-differs : (illegal : Option Illegal) (item : Item) (old new : FlatMachine) (differs : Differs) → IsNotMade old item differs new
    → ItemDiffers old illegal item differs.field differs.found
not_made-differs illegal (Done entry) old new differs h =
    inl (record { stays = new; first = record { reach = h.reach; catches = h.catches; entry_is = refl; told = h.told } })
not_made-differs illegal (Bus bus) old new differs h = absurd h

pub illegal-differs : (illegal : Option Illegal) (item : Item) (old new : FlatMachine) (is : Illegal)
    → entered_all (entries (item ∷ [])) old ≡ Some new → illegal ≡ Some is → ItemDiffers old illegal item is.field is.found
unfolding entered_all
illegal-differs illegal (Done entry) old new is made h = inr (new, sym (option_and_then-Some (entered entry old)) ∙ made, h)
illegal-differs illegal (Bus bus) old new is made h = h

-- ---- the letters behind a history

pub illegal-by : (caches : Option Caches) (cores code_lines : ℕ) (items : List Item) (letters : Option HeldLetters) (item : Item)
    → AreAfter caches cores code_lines items letters → illegal_by letters item ≡ illegal_behind caches cores code_lines items item
illegal-by None cores code_lines items None item h = refl
illegal-by None cores code_lines items (Some letters) item h = absurd h
illegal-by (Some caches) cores code_lines items None item h = absurd h
illegal-by (Some caches) cores code_lines items (Some letters) item (caches_are, cores_are, lines_are, letters_are) =
    rw (caches_are, cores_are, lines_are, letters_are) refl

pub after-more : (caches : Option Caches) (cores code_lines : ℕ) (items : List Item) (item : Item) (old new : Option HeldLetters)
    → AreAfter caches cores code_lines items old → AreNext item old new → AreAfter caches cores code_lines (items ++ item ∷ []) new
after-more None cores code_lines items item None None h next = tt
after-more None cores code_lines items item None (Some new) h next = absurd next
after-more None cores code_lines items item (Some old) new h next = absurd h
after-more (Some caches) cores code_lines items item None new h next = absurd h
after-more (Some caches) cores code_lines items item (Some old) None h next = absurd next
after-more (Some caches) cores code_lines items item (Some old) (Some new) (caches_are, cores_are, lines_are, letters_are) (kept, next) = (
  kept.caches ∙ caches_are,
  kept.cores ∙ cores_are,
  kept.code_lines ∙ lines_are,
  next ∙ ap (λ c. letters_after c (letters_of old) (item ∷ [])) caches_are ∙ ap (λ l. letters_after caches l (item ∷ [])) letters_are
      ∙ sym (letters_after-append caches no_letters items (item ∷ [])),
)

-- ---- a history that goes on right

no_bus : (items : List Item) (entry : Entry) → transactions items ≡ [] → transactions (items ++ Done entry ∷ []) ≡ []
no_bus [] entry h = refl
no_bus (Done first ∷ items) entry h = no_bus items entry h
no_bus (Bus bus ∷ items) entry h = cc

of_cores : (machine : MachineKind) (cores bytes : ℕ) (item : Item) → IsItem machine cores bytes item → IsOfCores cores item
of_cores machine cores bytes (Done entry) h = h.core
of_cores machine cores bytes (Bus bus) h = h.1.master

module _ (setup : Setup) (image : ImageValue) where
  follows-more : (machine : MachineKind) (bytes : ℕ) (items : List Item) (item : Item) → IsItem machine setup.cores bytes item
      → FollowsOn machine setup image items → illegal_on machine setup image items item ≡ None
      → FollowsOn machine setup image (items ++ item ∷ [])
  follows-more Plain bytes items (Done entry) is h legal = no_bus items entry h
  follows-more Plain bytes items (Bus bus) is h legal = absurd (let bus_is = is.0 in cc)
  follows-more Pipe bytes items (Done entry) is h legal = no_bus items entry h
  follows-more Pipe bytes items (Bus bus) is h legal = absurd (let bus_is = is.0 in cc)
  follows-more Full bytes items item is h legal =
      let caches = all_with moesi setup.sets setup.ways in
      FollowsFrom-append caches setup.cores (code_lines image) no_letters items (item ∷ []) h
      (illegal-not_allowed.legal caches setup.cores (code_lines image) (letters_after caches no_letters items) item
      (of_cores Full setup.cores bytes item is) legal)

  pub right-start : (machine : FlatMachine) → HistoryIsRight setup image [] machine machine
  unfolding entered_all
  right-start machine = record { made = refl; follows = none setup.machine }
    where
      none : (machine : MachineKind) → FollowsOn machine setup image []
      none Plain = refl
      none Pipe = refl
      none Full = tt

  pub right-more : (bytes : ℕ) (items : List Item) (item : Item) (start there next : FlatMachine)
      → IsItem setup.machine setup.cores bytes item → HistoryIsRight setup image items start there
      → entered_all (entries (item ∷ [])) there ≡ Some next
      → illegal_on setup.machine setup image items item ≡ None
      → HistoryIsRight setup image (items ++ item ∷ []) start next
  right-more bytes items item start there next is h made legal = record {
    made = ap (λ es. entered_all es start) (entries-append items (item ∷ []))
        ∙ entered_all-append (entries items) (entries (item ∷ [])) start
        ∙ ap (option_and_then (entered_all (entries (item ∷ [])))) h.made ∙ made;
    follows = follows-more setup.machine bytes items item is h.follows legal;
  }

  pub differs-at : (items : List Item) (i : ℕ) (d : Item) (start there : FlatMachine) (first_line : ℕ) (letters : Option HeldLetters)
      (difference : Difference) → i < length items
      → HistoryIsRight setup image (take i items) start there
      → AreAfter (caches_of setup) setup.cores (code_lines image) (take i items) letters
      → ItemDiffers there (illegal_by letters (get_or items i d)) (get_or items i d) difference.field difference.found
      → difference.line ≡ first_line + i → difference.kept ≡ kept_in (get_or items i d) difference.field
      → HistoryDiffers setup image first_line items start difference
  differs-at items i d start there first_line letters difference below right after differs line kept =
      let item = get_or items i d in
      record {
        before = take i items;
        item = item;
        later = drop (suc i) items;
        are = split_at items i d below;
        there = there;
        right = right;
        differs = subst (λ illegal. ItemDiffers there illegal item difference.field difference.found)
            (illegal-by (caches_of setup) setup.cores (code_lines image) (take i items) letters item after) differs;
        line = line ∙ ap (λ n. first_line + n) (omega (arith, length-take i items));
        kept = kept;
      }
