use Rattle.std.proofs.Common.{◌≡◌, ◌+◌, List, [], ◌∷◌, length, drop, get_or, None, sym, ap, ◌∙◌, subst, arith}
use Rattle.std.specs.Prelude.{is_some, count_by}
use Rattle.std.proofs.lemmas.List.{drop_more}
use Rattle.mips_isa.specs.declared.Kind.TheVariants.{Fetch}
use Rattle.access_log.specs.declared.Transaction.{Transaction}
use Rattle.access_log.specs.declared.Item.{Item}
use Rattle.access_log.specs.declared.Item.TheVariants.{Done}
use Rattle.access_log.specs.Items.{transactions}
use Rattle.letters.specs.Fold.{letters_after}
use Rattle.item_check.specs.Held.{caches_of, letters_of}
use Rattle.report_text.specs.Counts.{is_upgrade, is_flush, count_transactions}
use Rattle.report_build.proofs.TransactionCounts.{HoldsWithin, core-at, legal-at, follows-at, within-at}
use Rattle.report_build.proofs.TransactionCounts.{transactions-more, count_by-more, count-more}
use Rattle.report_build.proofs.counts.count_transactions.Goals as goal

-- what stands for an item past the last
abbrev past_items : Item
past_items = Done (record { core = 0; nth = 0; kind = Fetch; addr = 0; old = 0; new = None })

pub counted-more-requires : goal.counted-more-requires
counted-more-requires c =
    let letters = c.args.letters in
    let now = c.loop-item in
    record {
      cores = rw now.invariant.kept.cores (core-at letters.sets letters.ways letters.cores letters.code_lines (letters_of now.letters)
          now.invariant.within c.args.items.now now.item-index past_items c.loop-item-test.true now.invariant.follows);
    }

pub next-requires : goal.next-requires
next-requires c =
    let letters = c.args.letters in
    let now = c.loop-item in
    record {
      cores = rw now.invariant.kept.cores (core-at letters.sets letters.ways letters.cores letters.code_lines (letters_of now.letters)
          now.invariant.within c.args.items.now now.item-index past_items c.loop-item-test.true now.invariant.follows);
    }

pub unreachable-requires : goal.unreachable-requires
unreachable-requires c =
    let letters = c.args.letters in
    let now = c.loop-item in
    let kept = now.invariant.kept in
    let none = legal-at letters.sets letters.ways letters.cores letters.code_lines (letters_of now.letters)
    now.invariant.within c.args.items.now now.item-index past_items c.loop-item-test.true now.invariant.follows in
    let illegal = rw (kept.caches, kept.cores, kept.code_lines) at c.in_default.ensures.illegal in
    absurd (cc (none, illegal))

pub loop-item-preserved : goal.loop-item-preserved
loop-item-preserved c =
    let letters = c.args.letters in
    let now = c.loop-item in
    let was = now.invariant in
    let items = c.args.items.now in
    let item = get_or items now.item-index past_items in
    let rest : List Item = drop (now.item-index + 1) items in
    let split : drop now.item-index items ≡ item ∷ rest = drop_more items now.item-index past_items c.loop-item-test.true in
    let next : letters_of c.next.new.self ≡ letters_after (caches_of letters) (letters_of now.letters) (item ∷ []) =
    c.in-Ok.ensures.letters ∙ ap (λ caches. letters_after caches (letters_of now.letters) (item ∷ [])) was.kept.caches in
    let more = c.counted-more.ensures in
    let upgrades : c.counted-more.result.upgrades
    ≡ count_transactions (caches_of letters) is_upgrade (letters_of now.letters) (item ∷ []) =
    more.upgrades ∙ ap (λ caches. count_transactions caches is_upgrade (letters_of now.letters) (item ∷ [])) was.kept.caches in
    let flushes : c.counted-more.result.flushes
    ≡ count_transactions (caches_of letters) is_flush (letters_of now.letters) (item ∷ []) =
    more.flushes ∙ ap (λ caches. count_transactions caches is_flush (letters_of now.letters) (item ∷ [])) was.kept.caches in
    record {
      kept = record {
        caches = c.in-Ok.ensures.kept.caches ∙ was.kept.caches;
        cores = c.in-Ok.ensures.kept.cores ∙ was.kept.cores;
        code_lines = c.in-Ok.ensures.kept.code_lines ∙ was.kept.code_lines;
      };
      follows = rw next (follows-at letters.sets letters.ways letters.cores letters.code_lines (letters_of now.letters) was.within items
          now.item-index past_items c.loop-item-test.true was.follows);
      within = subst (HoldsWithin letters.cores) (sym next) (within-at letters.sets letters.ways letters.cores letters.code_lines
          (letters_of now.letters) was.within items now.item-index past_items c.loop-item-test.true was.follows);
      all = omega (arith, was.all, ap (λ (xs : List Item). length (transactions xs)) split, transactions-more item rest, more.transactions);
      exclusive = omega (
        arith,
        was.exclusive,
        ap (λ (xs : List Item). count_by (λ (bus : Transaction). bus.im) (transactions xs)) split,
        count_by-more (λ (bus : Transaction). bus.im) item rest,
        more.exclusive,
      );
      owned = omega (
        arith,
        was.owned,
        ap (λ (xs : List Item). count_by (λ (bus : Transaction). is_some bus.di) (transactions xs)) split,
        count_by-more (λ (bus : Transaction). is_some bus.di) item rest,
        more.owned,
      );
      upgrades = omega (
        arith,
        was.upgrades,
        ap (count_transactions (caches_of letters) is_upgrade (letters_of now.letters)) split,
        count-more (caches_of letters) is_upgrade (letters_of now.letters) item rest,
        upgrades,
        ap (λ l. count_transactions (caches_of letters) is_upgrade l rest) next,
      );
      flushes = omega (
        arith,
        was.flushes,
        ap (count_transactions (caches_of letters) is_flush (letters_of now.letters)) split,
        count-more (caches_of letters) is_flush (letters_of now.letters) item rest,
        flushes,
        ap (λ l. count_transactions (caches_of letters) is_flush l rest) next,
      );
      few_all = omega (arith, was.few_all, more.few.0);
      few_exclusive = omega (arith, was.few_exclusive, more.few.1);
      few_owned = omega (arith, was.few_owned, more.few.2);
      few_upgrades = omega (arith, was.few_upgrades, more.few.3);
      few_flushes = omega (arith, was.few_flushes, more.few.4);
    }
