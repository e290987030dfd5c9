-- What is read is a report, what is a report is read, and what isn't read doesn't go on as one where reading is stuck.
use Rattle.std.proofs.Common.{◌≡◌, ℕ, List, [], ◌∷◌, ◌++◌, length, map, Option, None, Result, Ok, Err, refl, sym, ap, subst, ◌∙◌}
use Rattle.std.proofs.Common.{append_assoc, arith, inl, inr}
use Rattle.std.specs.Prelude.{codes}
use Rattle.std.proofs.lemmas.List.{append-nil}
use Rattle.std.proofs.lemmas.Option.{none-some}
use Rattle.image_file.specs.Value.{ImageValue, image_bytes, memory_bytes}
use Rattle.image_file.specs.Reading.{image_meaning}
use Rattle.row_reader.specs.Rows.{Row, Rows, rows_of}
use Rattle.kmp_base.specs.Bind.{◌>>=◌}
use Rattle.kmp_base.proofs.ReadingLaws.{bind_ok, bind_err}
use Rattle.row_reader.specs.Reading.{chosen, row_at}
use Rattle.row_reader.specs.Starts.{Stops}
use Rattle.row_reader.proofs.PartLaws.{row_takes, ok_is, err_is, chosen_err, head_is, tail_is}
use Rattle.row_reader.proofs.FieldLaws.{some_is}
use Rattle.row_reader.proofs.TextLaws.{text_is, rows_are}
use Rattle.report_rows.specs.Bounds.{IsHeader}
use Rattle.report_rows.specs.Rows.{number_row, item_row, memory_row, header_rows}
use Rattle.report_text.specs.Report.{ReportValue}
use Rattle.report_text.specs.Text.{rows_of_cores, rows_of_timetables, count_rows, image_rows, report_rows, report_text}
use Rattle.report_text.specs.Form.{IsReport}
use Rattle.report_read.specs.BadRow.{BeginsReport, BeginsOpening, MayStand}
use Rattle.report_read.specs.Reading.{OpeningValue, opening_at, image_row_of, outcome_at, report_at, whole, read_of}
use Rattle.report_read.proofs.OpeningLaws.{full_of, full_rows, IsOpening, rows_of_opening, front_of, opening_of, opening_part, opening_fits}
use Rattle.report_read.proofs.OpeningLaws.{opening_rows_are, all_rows, begins_opening}
use Rattle.report_text.proofs.ImageLaws.{image_bytes_are}
use Rattle.report_read.proofs.LastRowLaws.{some_bytes, memory_fits, IsImageOf, last_row, image_law}
use Rattle.report_read.proofs.PlainText.{report_plain}
use Rattle.report_read.proofs.OutcomeLaws.{IsMemory, IsOutcome, IsOutcomeOf, end_row, rows_behind, outcome_part}

-- ---- the three parts of a report

-- the opening of a report
abbrev opening_in : ReportValue → OpeningValue
opening_in r = opening_of r.setup (image_bytes r.image)

regroup : (header size front last items cores words times counts end rest : Rows)
    → (((header ++ (size ++ (front ++ last)) ++ items) ++ (cores ++ words ++ times ++ counts)) ++ end) ++ rest
    ≡ (header ++ (size ++ front)) ++ (last ++ ((items ++ (cores ++ (words ++ (times ++ (counts ++ end))))) ++ rest))
regroup header size front last items cores words times counts end rest = simp append_assoc

image_rows_are : (image : ImageValue) → image_rows image
    ≡ (number_row (codes "image") (length (image_bytes image)) ∷ [])
    ++ (full_rows (full_of (length (image_bytes image))) (front_of (image_bytes image)) ++ last_row image ∷ [])
unfolding image_rows
image_rows_are image = ap (λ (r : Rows). number_row (codes "image") (length (image_bytes image)) ∷ r)
    (all_rows (image_bytes image) (some_bytes image))

-- the rows of a report: its opening, the last row of the image, and what follows
parts_are : (r : ReportValue) (rest : Rows) → report_rows r ++ rest ≡ rows_of_opening (opening_in r)
    ++ (last_row r.image ∷ (rows_behind r ++ rest))
unfolding report_rows
parts_are r rest =
    ap (λ (image : Rows). (((header_rows r.setup ++ image ++ map item_row r.items)
    ++ (rows_of_cores 0 r.cores ++ map memory_row r.words ++ rows_of_timetables 0 r.cores ++ count_rows r.counts)) ++ end_row ∷ []) ++ rest)
    (image_rows_are r.image)
    ∙ regroup (header_rows r.setup) (number_row (codes "image") (length (image_bytes r.image)) ∷ [])
    (full_rows (full_of (length (image_bytes r.image))) (front_of (image_bytes r.image))) (last_row r.image ∷ [])
    (map item_row r.items) (rows_of_cores 0 r.cores) (map memory_row r.words) (rows_of_timetables 0 r.cores) (count_rows r.counts)
    (end_row ∷ []) rest

all_parts_are : (r : ReportValue) → report_rows r ≡ rows_of_opening (opening_in r) ++ (last_row r.image ∷ (rows_behind r ++ []))
all_parts_are r = sym (append-nil (report_rows r)) ∙ parts_are r []

opening_in_fits : (r : ReportValue) → IsReport r → IsOpening (opening_in r)
opening_in_fits r i = opening_fits r.setup (image_bytes r.image) i.header (image_bytes_are r.image) (some_bytes r.image) i.image_size

outcome_in : (r : ReportValue) → IsReport r → IsOutcome r
outcome_in r i = record { items = i.items; cores = i.cores; ends = i.ends; words = i.words; thirteen = i.thirteen; counts = i.counts }

-- a report with an opening is one of its images
image_in : (o : OpeningValue) (r : ReportValue) → IsReport r → o ≡ opening_in r → IsImageOf o r.image
image_in o r i is = (i.image, ap (λ z. opening_of z.setup (image_bytes r.image)) is ∙ sym is)

-- Its parts make it a report.
record IsMade (o : OpeningValue) (image : ImageValue) (r : ReportValue) : Type 0 where
  is : IsReport r
  opening : opening_in r ≡ o

made_of : (o : OpeningValue) (image : ImageValue) (r : ReportValue) → IsOpening o → IsImageOf o image → IsOutcomeOf o.setup image r
    → IsMade o image r
made_of o image r opening good h =
    let setup_is = h.0.0 in
    let image_is = h.0.1 in
    let same : opening_in r ≡ o = ap (λ setup. opening_of setup (image_bytes r.image)) setup_is
    ∙ ap (λ m. opening_of o.setup (image_bytes m)) image_is ∙ good.1 in
    let size : length (image_bytes r.image) ≡ o.size = ap (λ z. z.size) same in
    record {
      is = record {
        header = subst IsHeader (sym setup_is) opening.header;
        image = subst (λ m. image_meaning (image_bytes m) ≡ Ok m) (sym image_is) good.0;
        image_size = omega (arith, size, opening.few);
        items = h.1.items;
        cores = h.1.cores;
        ends = h.1.ends;
        words = h.1.words;
        thirteen = h.1.thirteen;
        counts = h.1.counts;
      };
      opening = same;
    }

fitting_memory : (o : OpeningValue) (image : ImageValue) → IsOpening o → IsImageOf o image → IsMemory (memory_bytes image)
fitting_memory o image opening good =
    let size : length (image_bytes image) ≡ o.size = ap (λ z. z.size) good.1 in
    memory_fits image (omega (arith, size, opening.few)) good.0

-- ---- the last row of the image

-- the image that is read of a row behind an opening
abbrev image_at : OpeningValue → Row → Option ImageValue
image_at o row = image_row_of o.size o.front row

image_err : (o : OpeningValue) (rows stuck : Rows) → row_at (image_at o) rows ≡ Err stuck
    → (rows ≡ stuck) × ((row : Row) (more : Rows) → stuck ≡ row ∷ more → image_at o row ≡ None)
image_err o [] stuck e =
    let s = err_is (ImageValue × Rows) [] stuck e in
    (s, λ row more is. absurd (let no : [] ≡ row ∷ more = s ∙ is in cc))
image_err o (first ∷ rows) stuck e =
    let c = chosen_err (image_at o first) first rows stuck e in
    (c.1, λ row more is. ap (image_at o) (sym (head_is first row rows more (c.1 ∙ is))) ∙ c.0)

-- ---- reports that are read

-- what is read behind an opening
abbrev after_opening : OpeningValue × Rows → Result (ReportValue × Rows) Rows
after_opening p = row_at (image_at p.0) p.1 >>= λ q. outcome_at p.0.setup q.0 q.1

report_takes : (rows rest : Rows) (r : ReportValue) → report_at rows ≡ Ok (r, rest) → IsReport r × (rows ≡ report_rows r ++ rest)
unfolding report_at
report_takes rows rest r e =
    let b = bind_ok (opening_at rows) after_opening (r, rest) e in
    let z = b.0.0 in
    let o = opening_part.takes rows b.0.1 z b.1 in
    let c = bind_ok (row_at (image_at z) b.0.1) (λ q. outcome_at z.setup q.0 q.1) (r, rest) b.2 in
    let l = row_takes (IsImageOf z) last_row (image_at z) (image_law z o.0) b.0.1 c.0.1 c.0.0 c.1 in
    let t = (outcome_part z.setup c.0.0 o.0.header (fitting_memory z c.0.0 o.0 l.0)).takes c.0.1 rest r c.2 in
    let m = made_of z c.0.0 r o.0 l.0 t.0 in (
      m.is,
      o.1 ∙ ap (λ (x : Rows). rows_of_opening z ++ x) (l.1 ∙ ap (λ (x : Rows). last_row c.0.0 ∷ x) t.1)
          ∙ ap (λ image. rows_of_opening z ++ (last_row image ∷ (rows_behind r ++ rest))) (sym t.0.0.1)
          ∙ ap (λ o. rows_of_opening o ++ (last_row r.image ∷ (rows_behind r ++ rest))) (sym m.opening)
          ∙ sym (parts_are r rest),
    )

report_again : (r : ReportValue) (rest : Rows) → IsReport r → report_at (report_rows r ++ rest) ≡ Ok (r, rest)
unfolding report_at
report_again r rest i =
    let o = opening_in r in
    let opening = opening_in_fits r i in
    let good = image_in o r i refl in
    let more = rows_behind r ++ rest in
    ap (λ (x : Rows). opening_at x >>= after_opening) (parts_are r rest)
    ∙ ap (λ y. y >>= after_opening) (opening_part.again o (last_row r.image ∷ more) opening)
    ∙ ap (λ x. chosen x (last_row r.image) more >>= λ q. outcome_at o.setup q.0 q.1) ((image_law o opening).again r.image good)
    ∙ (outcome_part r.setup r.image i.header (fitting_memory o r.image opening good)).again r rest ((refl, refl), outcome_in r i)

-- ---- where reading is stuck

-- The rows in front of the stuck ones may stand, and with the first of these they may not.
record Halts (rows stuck : Rows) : Type 0 where
  front : Rows
  are : rows ≡ front ++ stuck
  before : MayStand front
  here : (row : Row) (more : Rows) → stuck ≡ row ∷ more → MayStand (front ++ row ∷ []) → ⊥

-- rows behind an opening that begin a report
behind : (o : OpeningValue) (more : Rows) (b : BeginsReport (rows_of_opening o ++ more)) → IsOpening o
    → (o ≡ opening_in b.report) × (more ++ b.rest ≡ last_row b.report.image ∷ (rows_behind b.report ++ []))
behind o more b fits =
    let others = last_row b.report.image ∷ (rows_behind b.report ++ []) in
    let mine = opening_part.again o (more ++ b.rest) fits in
    let theirs = opening_part.again (opening_in b.report) others (opening_in_fits b.report b.is) in
    let same : rows_of_opening o ++ (more ++ b.rest) ≡ rows_of_opening (opening_in b.report) ++ others =
    sym (append_assoc (rows_of_opening o) more b.rest) ∙ b.are ∙ all_parts_are b.report in
    let both = ok_is (o, more ++ b.rest) (opening_in b.report, others) (sym mine ∙ ap opening_at same ∙ theirs) in
    (ap (λ q. q.0) both, ap (λ q. q.1) both)

-- the opening that rows begin
begun : (rows : Rows) → BeginsOpening rows → OpeningValue
begun rows b = opening_of b.setup b.bytes

begun_fits : (rows : Rows) (b : BeginsOpening rows) → IsOpening (begun rows b)
unfolding begun
begun_fits rows b = opening_fits b.setup b.bytes b.header b.are_bytes b.some b.few

begun_are : (rows : Rows) (b : BeginsOpening rows) → rows ++ b.rest ≡ rows_of_opening (begun rows b) ++ []
unfolding begun
begun_are rows b = b.are ∙ opening_rows_are b.setup b.bytes ∙ sym (append-nil (rows_of_opening (opening_of b.setup b.bytes)))

-- no more rows end within an opening
not_behind : (o : OpeningValue) (row : Row) (more : Rows) → BeginsOpening (rows_of_opening o ++ row ∷ more) → IsOpening o → ⊥
not_behind o row more b fits =
    let z = begun (rows_of_opening o ++ row ∷ more) b in
    let mine = opening_part.again o (row ∷ more ++ b.rest) fits in
    let theirs = opening_part.again z [] (begun_fits (rows_of_opening o ++ row ∷ more) b) in
    let same : rows_of_opening o ++ (row ∷ more ++ b.rest) ≡ rows_of_opening z ++ [] =
    sym (append_assoc (rows_of_opening o) (row ∷ more) b.rest) ∙ begun_are (rows_of_opening o ++ row ∷ more) b in
    let both = ok_is (o, row ∷ more ++ b.rest) (z, []) (sym mine ∙ ap opening_at same ∙ theirs) in
    let no = ap (λ q. q.1) both in
    absurd cc

-- where reading may be stuck

stuck_in_opening : (rows stuck : Rows) → Stops IsOpening rows_of_opening rows stuck → Halts rows stuck
stuck_in_opening rows stuck s = record {
  front = s.front;
  are = s.are;
  before = inr (begins_opening s.begins.value s.front (s.begins.next ∷ s.begins.more) s.begins.fits (sym s.begins.are));
  here = λ row more is stands. s.ends row more is (elim stands [
    | inl b ↦ record {
      value = opening_in b.report;
      fits = opening_in_fits b.report b.is;
      here = b.rest;
      there = last_row b.report.image ∷ (rows_behind b.report ++ []);
      are = b.are ∙ all_parts_are b.report;
    }
    | inr b ↦ record {
      value = begun (s.front ++ row ∷ []) b;
      fits = begun_fits (s.front ++ row ∷ []) b;
      here = b.rest;
      there = [];
      are = begun_are (s.front ++ row ∷ []) b;
    }
  ]);
}

stuck_at_image : (rows stuck later : Rows) (o : OpeningValue) → IsOpening o → rows ≡ rows_of_opening o ++ later
    → row_at (image_at o) later ≡ Err stuck → Halts rows stuck
stuck_at_image rows stuck later o fits are e =
    let l = image_err o later stuck e in
    record {
      front = rows_of_opening o;
      are = are ∙ ap (λ (x : Rows). rows_of_opening o ++ x) l.0;
      before = inr (begins_opening o (rows_of_opening o) [] fits (append-nil (rows_of_opening o)));
      here = λ row more is stands. elim stands [
        | inl b ↦
            let p = behind o (row ∷ []) b fits in
            let spelled : row ≡ last_row b.report.image = head_is row (last_row b.report.image) b.rest (rows_behind b.report ++ []) p.1 in
            none-some b.report.image (sym (l.1 row more is)
            ∙ ap (image_at o) spelled ∙ (image_law o fits).again b.report.image (image_in o b.report b.is p.0))
        | inr b ↦ not_behind o row [] b fits
      ];
    }

stuck_behind : (rows stuck later outcome : Rows) (o : OpeningValue) (image : ImageValue) → IsOpening o → IsImageOf o image
    → rows ≡ rows_of_opening o ++ later → later ≡ last_row image ∷ outcome → Stops (IsOutcomeOf o.setup image) rows_behind outcome stuck
    → Halts rows stuck
stuck_behind rows stuck later outcome o image fits good are later_are s =
    let r = s.begins.value in
    let m = made_of o image r fits good s.begins.fits in
    record {
      front = rows_of_opening o ++ last_row image ∷ s.front;
      are = are ∙ ap (λ (x : Rows). rows_of_opening o ++ x) (later_are ∙ ap (λ (x : Rows). last_row image ∷ x) s.are)
          ∙ sym (append_assoc (rows_of_opening o) (last_row image ∷ s.front) stuck);
      before = inl (record {
        report = r;
        is = m.is;
        rest = s.begins.next ∷ s.begins.more;
        are = append_assoc (rows_of_opening o) (last_row image ∷ s.front) (s.begins.next ∷ s.begins.more)
            ∙ ap (λ (x : Rows). rows_of_opening o ++ last_row image ∷ x) (sym s.begins.are ∙ sym (append-nil (rows_behind r)))
            ∙ ap (λ image. rows_of_opening o ++ (last_row image ∷ (rows_behind r ++ []))) (sym s.begins.fits.0.1)
            ∙ ap (λ o. rows_of_opening o ++ (last_row r.image ∷ (rows_behind r ++ []))) (sym m.opening)
            ∙ sym (all_parts_are r);
      });
      here = λ row more is stands.
          let whole_front : (rows_of_opening o ++ last_row image ∷ s.front) ++ row ∷ [] ≡ rows_of_opening o ++ last_row image
          ∷ (s.front ++ row ∷ []) = append_assoc (rows_of_opening o) (last_row image ∷ s.front) (row ∷ []) in
          elim (subst MayStand whole_front stands) [
            | inl b ↦
                let p = behind o (last_row image ∷ (s.front ++ row ∷ [])) b fits in
                let others = rows_behind b.report ++ [] in
                let first : last_row image ≡ last_row b.report.image = head_is _ _ ((s.front ++ row ∷ []) ++ b.rest) others p.1 in
                let same : image ≡ b.report.image = some_is image b.report.image
                (sym ((image_law o fits).again image good) ∙ ap (image_at o) first
                ∙ (image_law o fits).again b.report.image (image_in o b.report b.is p.0)) in
                s.ends row more is (record {
                  value = b.report;
                  fits = ((sym (ap (λ z. z.setup) p.0), sym same), outcome_in b.report b.is);
                  here = b.rest;
                  there = [];
                  are = tail_is _ _ ((s.front ++ row ∷ []) ++ b.rest) others p.1;
                })
            | inr b ↦ not_behind o (last_row image) (s.front ++ row ∷ []) b fits
          ];
    }

report_halts : (rows stuck : Rows) → report_at rows ≡ Err stuck → Halts rows stuck
unfolding report_at
report_halts rows stuck e =
    elim (bind_err (opening_at rows) after_opening stuck e) [
      | inl at_opening ↦ stuck_in_opening rows stuck (opening_part.stops rows stuck at_opening)
      | inr opened ↦
          let z = opened.0.0 in
          let o = opening_part.takes rows opened.0.1 z opened.1 in
          elim (bind_err (row_at (image_at z) opened.0.1) (λ q. outcome_at z.setup q.0 q.1) stuck opened.2) [
            | inl at_image ↦ stuck_at_image rows stuck opened.0.1 z o.0 o.1 at_image
            | inr behind_it ↦
                let l = row_takes (IsImageOf z) last_row (image_at z) (image_law z o.0) opened.0.1 behind_it.0.1 behind_it.0.0 behind_it.1
                in
                stuck_behind rows stuck opened.0.1 behind_it.0.1 z behind_it.0.0 o.0 l.0 o.1 l.1
                ((outcome_part z.setup behind_it.0.0 o.0.header (fitting_memory z behind_it.0.0 o.0 l.0)).stops behind_it.0.1 stuck
                behind_it.2)
          ]
    ]

-- ---- the whole of the rows

whole_ok : (r s : ReportValue) (rest : Rows) → whole r rest ≡ Ok s → (r ≡ s) × (rest ≡ [])
whole_ok r s [] e = (ok_is r s e, refl)
whole_ok r s (row ∷ rest) e = absurd cc

whole_err : (r : ReportValue) (rest stuck : Rows) → whole r rest ≡ Err stuck → rest ≡ stuck
whole_err r [] stuck e = absurd cc
whole_err r (row ∷ rest) stuck e = err_is ReportValue (row ∷ rest) stuck e

pub report_found : (rows : Rows) (r : ReportValue) → read_of rows ≡ Ok r → IsReport r × (rows ≡ report_rows r)
unfolding read_of
report_found rows r e =
    let b = bind_ok (report_at rows) (λ p. whole p.0 p.1) r e in
    let t = report_takes rows b.0.1 b.0.0 b.1 in
    let w = whole_ok b.0.0 r b.0.1 b.2 in
    (subst IsReport w.0 t.0, t.1 ∙ ap (λ (x : Rows). report_rows b.0.0 ++ x) w.1 ∙ append-nil (report_rows b.0.0) ∙ ap report_rows w.0)

pub report_read : (rows : Rows) (r : ReportValue) → IsReport r → rows ≡ report_rows r → read_of rows ≡ Ok r
unfolding read_of
report_read rows r i e =
    ap (λ (x : Rows). report_at x >>= λ p. whole p.0 p.1) (e ∙ sym (append-nil (report_rows r)))
    ∙ ap (λ y. y >>= λ p. whole p.0 p.1) (report_again r [] i)

not_read : (rows stuck : Rows) → read_of rows ≡ Err stuck → (r : ReportValue) → IsReport r → rows ≡ report_rows r → ⊥
not_read rows stuck e r i is = let read = report_read rows r i is in absurd cc

-- no report goes on behind a report
not_longer : (r : ReportValue) (row : Row) → IsReport r → MayStand (report_rows r ++ row ∷ []) → ⊥
not_longer r row i stands = elim stands [
  | inl b ↦
      let mine = report_again r (row ∷ b.rest) i in
      let theirs = report_again b.report [] b.is in
      let same : report_rows r ++ (row ∷ b.rest) ≡ report_rows b.report ++ [] = sym (append_assoc (report_rows r) (row ∷ []) b.rest) ∙ b.are
      ∙ sym (append-nil (report_rows b.report)) in
      let both = ok_is (r, row ∷ b.rest) (b.report, []) (sym mine ∙ ap report_at same ∙ theirs) in
      absurd (let no = ap (λ q. q.1) both in cc)
  | inr b ↦
      not_behind (opening_in r) (last_row r.image) (rows_behind r ++ row ∷ []) (subst BeginsOpening (parts_are r (row ∷ [])) b)
      (opening_in_fits r i)
]

-- The rows are no report. The stuck ones begin with the first row that doesn't go on as one, or are none where rows are
-- missing: the rows in front of them may stand, and with that row they may not.
pub record IsStuckAt (rows stuck : Rows) : Type 0 where
  pub front : Rows
  pub are : rows ≡ front ++ stuck
  pub before : MayStand front
  pub here : (row : Row) (more : Rows) → stuck ≡ row ∷ more → MayStand (front ++ row ∷ []) → ⊥
  pub none : (report : ReportValue) → IsReport report → rows ≡ report_rows report → ⊥

pub report_stuck : (rows stuck : Rows) → read_of rows ≡ Err stuck → IsStuckAt rows stuck
unfolding read_of
report_stuck rows stuck e =
    elim (bind_err (report_at rows) (λ p. whole p.0 p.1) stuck e) [
      | inl inside ↦
          let h = report_halts rows stuck inside in
          record { front = h.front; are = h.are; before = h.before; here = h.here; none = not_read rows stuck e }
      | inr behind_it ↦
          let r = behind_it.0.0 in
          let t = report_takes rows behind_it.0.1 r behind_it.1 in
          record {
            front = report_rows r;
            are = t.1 ∙ ap (λ (x : Rows). report_rows r ++ x) (whole_err r behind_it.0.1 stuck behind_it.2);
            before = inl (record { report = r; is = t.0; rest = []; are = append-nil (report_rows r) });
            here = λ row more is stands. not_longer r row t.0 stands;
            none = not_read rows stuck e;
          }
    ]

-- ---- texts

-- a text is the text of a report exactly where its rows are the report's

pub text_of_report : (text : List ℕ) (r : ReportValue) → IsReport r → rows_of text ≡ report_rows r → text ≡ report_text r
unfolding report_text
text_of_report text r i is = text_is text (report_rows r) (report_plain r i) is

pub rows_of_report : (text : List ℕ) (r : ReportValue) → IsReport r → text ≡ report_text r → rows_of text ≡ report_rows r
unfolding report_text
rows_of_report text r i is = rows_are text (report_rows r) (report_plain r i) is
