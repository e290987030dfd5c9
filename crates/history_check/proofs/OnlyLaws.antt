-- A history has one first difference, and none where it is right.
use Rattle.std.proofs.Common.{◌≡◌, ℕ, List, [], ◌∷◌, ◌++◌, inl, inr, refl, sym, ap, ◌∙◌, subst}
use Rattle.std.specs.Prelude.{Option, Some, None, slice_get}
use Rattle.std.proofs.lemmas.Option.{none-some, same_Some, some_pair_parts}
use Rattle.std_laws.proofs.ListLaws.{SplitCases, split_cases}
use Rattle.kmp_base.specs.declared.setup.Setup.{Setup}
use Rattle.image_file.specs.Value.{ImageValue, code_lines}
use Rattle.access_log.specs.declared.Entry.{Entry}
use Rattle.access_log.specs.declared.Item.{Item}
use Rattle.access_log.specs.declared.Item.TheVariants.{Done, Bus}
use Rattle.access_log.specs.declared.field.Field.{Field}
use Rattle.access_log.specs.declared.field.Found.{Found}
use Rattle.access_log.specs.Items.{entries}
use Rattle.access_log.specs.Replay.{FlatMachine, entered, entered_all}
use Rattle.access_log.proofs.ItemLaws.{entries-append}
use Rattle.access_log.proofs.ReplayLaws.{entered_all-append}
use Rattle.seq_machine.specs.declared.Reach.{Reach}
use Rattle.seq_machine.specs.declared.Reach.TheVariants.{There, AccessAt, StopAt, Passed}
use Rattle.seq_machine.specs.Reaching.{CatchesUp}
use Rattle.seq_machine.specs.Differences.{difference_of}
use Rattle.seq_machine.proofs.ReachingLaws.{one_answer, CatchesUp-core}
use Rattle.seq_machine.proofs.EnteringLaws.{entered-away, entered-differs}
use Rattle.letters.specs.Caches.{Caches}
use Rattle.letters.specs.Fold.{no_letters, letters_after, Follows}
use Rattle.item_check.specs.declared.Illegal.{Illegal}
use Rattle.item_check.proofs.IllegalLaws.{illegal-not_allowed}
use Rattle.row_check.specs.declared.difference.Difference.{Difference}
use Rattle.right_run.specs.Right.{caches_of}
use Rattle.history_check.specs.History.{HistoryIsRight, HistoryDiffers, AccessDiffers, ItemDiffers, illegal_behind, illegal_on}
use Rattle.history_check.proofs.FollowLaws.{FollowsFrom-front, FollowsFrom-rest}

-- ---- an access that differs isn't made, and differs in one way

by_reach : (machine : FlatMachine) (entry : Entry) (told : Field × Found) (stays : FlatMachine) (reach : Reach)
    (h : CatchesUp machine entry.core entry.nth reach stays)
    → difference_of stays entry reach h.after ≡ Some told → entered entry machine ≡ None
by_reach machine entry told stays There h differs = entered-differs machine entry told stays h differs
by_reach machine entry told stays (AccessAt m) h differs = entered-away machine entry (AccessAt m) stays h (λ e. cc)
by_reach machine entry told stays (StopAt m) h differs = entered-away machine entry (StopAt m) stays h (λ e. cc)
by_reach machine entry told stays (Passed m) h differs = entered-away machine entry (Passed m) stays h (λ e. cc)

not_entered : {machine : FlatMachine} {entry : Entry} {field : Field} {found : Found} → AccessDiffers machine entry field found
    → entered entry machine ≡ None
not_entered {machine} {entry} {field} {found} h = by_reach machine entry (field, found) h.stays h.first.reach h.first.catches h.first.told

same_after : (machine : FlatMachine) (index n : ℕ) (reach other : Reach) (a b : FlatMachine) (h : CatchesUp machine index n reach a)
    (k : CatchesUp machine index n other b)
    → b ≡ a → k.after ≡ h.after
same_after machine index n reach other a b h k same =
    same_Some k.after h.after (sym (CatchesUp-core machine index n other b k) ∙ ap (λ (m : FlatMachine). slice_get m.cores index) same
    ∙ CatchesUp-core machine index n reach a h)

one_access : {machine : FlatMachine} {entry : Entry} {f g : Field} {x y : Found} → AccessDiffers machine entry f x
    → AccessDiffers machine entry g y → (f ≡ g) × (x ≡ y)
one_access {machine} {entry} {f} {g} {x} {y} h k =
    let same = one_answer machine entry.core entry.nth h.first.reach k.first.reach h.stays k.stays h.first.catches k.first.catches in
    let after : k.first.catches.after ≡ h.first.catches.after =
    same_after machine entry.core entry.nth h.first.reach k.first.reach h.stays k.stays h.first.catches k.first.catches same.1 in
    let there : difference_of h.stays entry h.first.reach h.first.catches.after ≡ Some (g, y) =
    rw (same.0, same.1, after) at k.first.told in
    some_pair_parts f g x y (sym h.first.told ∙ there)

same_illegal : {illegal : Option Illegal} {f g : Field} {x y : Found} → illegal ≡ Some (record { field = f; found = x })
    → illegal ≡ Some (record { field = g; found = y }) → (f ≡ g) × (x ≡ y)
same_illegal {illegal} {f} {g} {x} {y} h k =
    let same = same_Some (illegal_of f x) (illegal_of g y) (sym h ∙ k) in
    (ap (λ (i : Illegal). i.field) same, ap (λ (i : Illegal). i.found) same)
  where
    illegal_of : Field → Found → Illegal
    illegal_of field found = record { field = field; found = found }

one_item : (machine : FlatMachine) (illegal : Option Illegal) (item : Item) {f g : Field} {x y : Found}
    → ItemDiffers machine illegal item f x → ItemDiffers machine illegal item g y → (f ≡ g) × (x ≡ y)
one_item machine illegal (Done entry) (inl h) (inl k) = one_access h k
one_item machine illegal (Done entry) (inl h) (inr k) = absurd (none-some k.0 (sym (not_entered h) ∙ k.1))
one_item machine illegal (Done entry) (inr h) (inl k) = absurd (none-some h.0 (sym (not_entered k) ∙ h.1))
one_item machine illegal (Done entry) (inr h) (inr k) = same_illegal h.2 k.2
one_item machine illegal (Bus bus) h k = same_illegal h k

-- ---- no history goes on right with an item that differs

none_behind : (before later : List Entry) (entry : Entry) (machine there : FlatMachine) → entered_all before machine ≡ Some there
    → entered entry there ≡ None
    → entered_all (before ++ entry ∷ later) machine ≡ None
unfolding entered_all
none_behind before later entry machine there made none =
    rw (entered_all-append before (entry ∷ later) machine, made, none) refl

not_legal : (caches : Option Caches) (cores code_lines : ℕ) (before : List Item) (item : Item) (later : List Item) (illegal : Illegal)
    → illegal_behind caches cores code_lines before item ≡ Some illegal → Follows caches cores code_lines (before ++ item ∷ later) → ⊥
not_legal None cores code_lines before item later illegal h follows = none-some illegal h
not_legal (Some caches) cores code_lines before item later illegal h follows =
    let rest = FollowsFrom-rest caches cores code_lines no_letters before (item ∷ later) follows in
    let front = FollowsFrom-front caches cores code_lines (letters_after caches no_letters before) (item ∷ []) later rest in
    none-some illegal
    (sym (illegal-not_allowed.allowed caches cores code_lines (letters_after caches no_letters before) item front) ∙ h)

stuck : {setup : Setup} {image : ImageValue} {machine there last : FlatMachine} (before : List Item) (item : Item) (later : List Item)
    (field : Field) (found : Found) → HistoryIsRight setup image before machine there
    → ItemDiffers there (illegal_on setup.machine setup image before item) item field found
    → HistoryIsRight setup image (before ++ item ∷ later) machine last → ⊥
stuck {setup} {image} {machine} {there} {last} before (Done entry) later field found front (inl differs) whole =
    none-some last
    (sym (none_behind (entries before) (entries later) entry machine there front.made (not_entered differs))
    ∙ ap (λ es. entered_all es machine) (sym (entries-append before (Done entry ∷ later))) ∙ whole.made)
stuck {setup} {image} before (Done entry) later field found front (inr illegal) whole =
    not_legal (caches_of setup) setup.cores (code_lines image) before (Done entry) later (record { field = field; found = found }) illegal.2
    whole.follows
stuck {setup} {image} before (Bus bus) later field found front illegal whole =
    not_legal (caches_of setup) setup.cores (code_lines image) before (Bus bus) later (record { field = field; found = found }) illegal
    whole.follows

pub difference_isnt_right : {setup : Setup} {image : ImageValue} {line : ℕ} {items : List Item} {machine last : FlatMachine}
    {difference : Difference} → HistoryDiffers setup image line items machine difference
    → HistoryIsRight setup image items machine last → ⊥
difference_isnt_right {setup} {image} {line} {items} {machine} {last} {difference} h right =
    stuck h.before h.item h.later difference.field difference.found h.right h.differs
    (subst (λ is. HistoryIsRight setup image is machine last) h.are right)

-- ---- one answer

not_past : {setup : Setup} {image : ImageValue} {line : ℕ} {items : List Item} {machine : FlatMachine} {a b : Difference}
    (h : HistoryDiffers setup image line items machine a) (k : HistoryDiffers setup image line items machine b)
    → (rest : List Item) × (k.before ≡ h.before ++ h.item ∷ rest) → ⊥
not_past {setup} {image} {machine = machine} {a = a} h k past =
    stuck h.before h.item past.0 a.field a.found h.right h.differs
    (subst (λ is. HistoryIsRight setup image is machine k.there) past.1 k.right)

told : (a b : Difference) → a.line ≡ b.line → a.field ≡ b.field → a.kept ≡ b.kept → a.found ≡ b.found → a ≡ b
told a b line field kept found =
    ap (λ (n : ℕ). make n a.field a.kept a.found) line ∙ ap (λ (f : Field). make b.line f a.kept a.found) field
    ∙ ap (λ (k : Found). make b.line b.field k a.found) kept ∙ ap (make b.line b.field b.kept) found
  where
    make : ℕ → Field → Found → Found → Difference
    make n f k due = record { line = n; field = f; kept = k; found = due }

pub one_history : {setup : Setup} {image : ImageValue} {line : ℕ} {items : List Item} {machine : FlatMachine} {a b : Difference}
    → HistoryDiffers setup image line items machine a → HistoryDiffers setup image line items machine b → a ≡ b
one_history {setup} {image} {line} {items} {machine} {a} {b} h k =
    by_split (split_cases h.before k.before h.item k.item h.later k.later (sym h.are ∙ k.are))
  where
    here : h.before ≡ k.before → h.item ≡ k.item → a ≡ b
    here before item =
        let there : k.there ≡ h.there =
        same_Some k.there h.there (sym k.right.made ∙ ap (λ is. entered_all (entries is) machine) (sym before) ∙ h.right.made) in
        let differs : ItemDiffers h.there (illegal_on setup.machine setup image h.before h.item) h.item
        b.field b.found = rw (there, sym item, sym before) at k.differs in
        let same = one_item h.there (illegal_on setup.machine setup image h.before h.item) h.item h.differs differs in
        told a b (h.line ∙ rw before (sym k.line)) same.0 (h.kept ∙ rw (item, same.0) (sym k.kept)) same.1

    by_split : SplitCases h.before h.item k.before k.item → a ≡ b
    by_split (inl (before, item)) = here before item
    by_split (inr (inl past)) = absurd (not_past h k past)
    by_split (inr (inr past)) = absurd (not_past k h past)
