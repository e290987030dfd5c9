use Rattle.std.proofs.Common.{rules, ◌≡◌, length, map, sym, subst, arith}
use Rattle.std.proofs.lemmas.List.Elements.{All-same}
use Rattle.access_log.specs.Items.{HasWords}
use Rattle.image_file.specs.Value.{ImageValue, IsGood}
use Rattle.timetable.specs.Outcome.{OutcomeValue}
use Rattle.right_run.specs.Right.{IsRight, caches_of}
use Rattle.report_rows.specs.Bounds.{IsWord, IsCount}
use Rattle.report_rows.specs.Ends.{end_value}
use Rattle.report_rows.specs.declared.MemoryWord.{MemoryWord}
use Rattle.report_text.specs.Counts.{counts_of}
use Rattle.report_text.specs.Report.{words_past, report_of}
use Rattle.report_build.proofs.TransactionForm.{AreOnLines}
use Rattle.report_build.proofs.FormLaws.{Fits, right_form}
use Rattle.report_build.proofs.build.build_report.Goals as goal

pub returns-clause-form : goal.returns-clause-form
unfolding report_of
returns-clause-form c ways right =
    let setup = c.args.setup.now in
    let image = c.args.image in
    let outcome : OutcomeValue = record
    { cores = c.outcome.inside.cores.items; words = c.outcome.inside.words; items = c.outcome.inside.history.items } in
    let words : c.in_ok-words.words.items ≡ words_past (length image.code) outcome.words = search rules in
    let counts : c.in_ok-counts.counts.values ≡ counts_of (caches_of setup) (map end_value outcome.cores) outcome.items = search rules in
    let fits : Fits setup image outcome = record {
      seed = omega arith;
      good = subst (λ (i : ImageValue). IsGood i) c.image.view_is c.image.invariant;
      ways = ways;
      items = All-same HasWords outcome.items c.items.result.now (sym c.items.ensures.items) c.items.ensures.words;
      lines = subst (λ (o : OutcomeValue). AreOnLines image o.items) (sym c.outcome.view_is) c.requires.lines;
      states = c.outcome.invariant;
      words = All-same (λ (word : MemoryWord). IsWord word.value) _ c.in_ok-words.words.items (sym words) c.in_ok-words.ensures.fit;
      counts = All-same IsCount _ c.in_ok-counts.counts.values (sym counts) c.in_ok-counts.ensures.fit;
    } in
    rw (words, counts) (right_form setup image outcome c.requires.limits fits
    (subst (λ (o : OutcomeValue). IsRight setup image o) (sym c.outcome.view_is) right))
