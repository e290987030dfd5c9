-- The header and the image's rows but the last are read as what they spell.
use Rattle.std.proofs.Common.{◌≡◌, ℕ, ◌+◌, ◌-◌, ◌*◌, ◌/◌, ◌^◌, ◌<◌, ◌≤◌, zero, suc, List, [], ◌∷◌, ◌++◌, length, take, drop, map, Ok, refl}
use Rattle.std.proofs.Common.{sym, ap, subst, ◌∙◌, arith, length-append, length-drop, drop-drop}
use Rattle.std.specs.Prelude.{codes, replicate}
use Rattle.std.specs.List.{range_with_len}
use Rattle.std.proofs.lemmas.List.{append-nil, take-append-drop, length-take-le, length-replicate, take-append-le, drop-append-le, take_all}
use Rattle.std.proofs.lemmas.List.{nil_from_length, take_at, drop_at}
use Rattle.kmp_base.specs.Machines.{most_ways}
use Rattle.kmp_base.specs.declared.setup.Setup.{Setup}
use Rattle.kmp_base.specs.declared.setup.MachineKind.{MachineKind}
use Rattle.kmp_base.specs.declared.setup.MachineKind.TheVariants.{Plain, Pipe, Full}
use Rattle.kmp_base.specs.declared.setup.Policy.{Policy}
use Rattle.kmp_base.specs.declared.setup.Policy.TheVariants as policies
use Rattle.kmp_base.specs.declared.setup.Turns.{Turns}
use Rattle.kmp_base.specs.declared.setup.Turns.TheVariants as turns
use Rattle.std_laws.proofs.ListLaws.{AllByRecursion-append, AllByRecursion-take_drop, AllByRecursion-replicate}
use Rattle.row_reader.specs.Rows.{Rows}
use Rattle.row_reader.specs.Starts.{IsPart}
use Rattle.kmp_base.specs.Bind.{◌>>=◌}
use Rattle.row_reader.specs.Reading.{row_at}
use Rattle.row_reader.proofs.PartLaws.{one_line, row_part, then_part}
use Rattle.row_reader.proofs.ManyLaws.{part_as, last_part, map_part, then_known, last_known}
use Rattle.report_rows.specs.Bounds.{IsByte, IsHeader}
use Rattle.report_rows.specs.Rows.{number_row, bytes_row, bytes_row_at, header_rows}
use Rattle.report_row_reader.specs.Reading.{bytes_row_of}
use Rattle.report_row_reader.proofs.RowLaws.{fixed_law, number_law, machine_law, sets_law, policy_law, turns_law, bytes_law}
use Rattle.report_text.proofs.ImageLaws.{AreBytes}
use Rattle.report_read.specs.BadRow.{BeginsOpening, opening_rows}
use Rattle.report_read.specs.Reading.{OpeningValue, caches_at, header_at, full_rows_at, opening_at}

-- ---- the header

make_setup : MachineKind → ℕ → ℕ → Policy → Turns → ℕ → ℕ → ℕ → Setup
make_setup machine cores budget policy turns seed sets ways = record {
  machine = machine;
  cores = cores;
  budget = budget;
  policy = policy;
  turns = turns;
  seed = seed;
  sets = sets;
  ways = ways;
}

make_setup_is : (z : Setup) → make_setup z.machine z.cores z.budget z.policy z.turns z.seed z.sets z.ways ≡ z
unfolding make_setup
make_setup_is z = refl

setup_is : (z : Setup) (machine : MachineKind) (cores budget : ℕ) (policy : Policy) (turns : Turns) (seed sets ways : ℕ)
    → z.machine ≡ machine → z.cores ≡ cores → z.budget ≡ budget → z.policy ≡ policy → z.turns ≡ turns → z.seed ≡ seed → z.sets ≡ sets
    → z.ways ≡ ways
    → make_setup machine cores budget policy turns seed sets ways ≡ z
setup_is z machine cores budget policy turns seed sets ways a b c d e f g h = let all = make_setup_is z in cc

-- what the rows behind the machine say, in their order
abbrev FieldsOn : MachineKind → Setup → Type 0
FieldsOn machine z =
    ((1 ≤ z.cores) × (z.cores ≤ 8)) × (((1 ≤ z.budget) × (z.budget ≤ 100000))
    × (Unit {0} × (Unit {0}
    × (((0 ≤ z.seed) × (z.seed ≤ 2 ^ 32 - 1))
    × ((((k : ℕ) × (z.sets ≡ 2 ^ k)) × (z.sets ≤ 256)) × (((1 ≤ z.ways) × (z.ways ≤ most_ways machine)) × Unit {0}))))))

-- what all its rows say
abbrev HeaderFields : Setup → Type 0
HeaderFields z = Unit {0} × (Unit {0} × (Unit {0} × FieldsOn z.machine z))

-- a header with this machine
abbrev HasMachine : MachineKind → Unit {0} → Setup → Type 0
HasMachine machine title z = (z.machine ≡ machine) × ((tt ≡ title) × Unit {0})

some_way : (machine : MachineKind) → 1 ≤ most_ways machine
some_way Plain = omega arith
some_way Pipe = omega arith
some_way Full = omega arith

few_ways : (machine : MachineKind) → most_ways machine ≤ 8
few_ways Plain = omega arith
few_ways Pipe = omega arith
few_ways Full = omega arith

header_fields : IsPart HeaderFields header_rows header_at
unfolding header_at caches_at header_rows make_setup
header_fields =
    then_known _ _ _ (λ z. tt) _ _ _ _ (row_part _ _ _ (fixed_law (codes "kmp-report" ∷ codes "1" ∷ [])) (tt, tt)) (λ title _.
    then_known _ _ _ (λ z. z.machine) _ _ _ _ (row_part _ _ _ machine_law (Plain, tt)) (λ machine _.
    part_as (λ z. HasMachine machine title z × FieldsOn machine z) (λ z. HasMachine machine title z × FieldsOn z.machine z) _ _ _
    (λ z h. (h.0, subst (λ m. FieldsOn m z) (sym h.0.0) h.1)) (λ z h. (h.0, subst (λ m. FieldsOn m z) h.0.0 h.1)) (λ z h. refl) (
    then_known _ _ _ (λ z. z.cores) _ _ _ _ (row_part _ _ _ (number_law (codes "cores") 1 8 (omega arith)) (1, (omega arith, omega arith)))
    (λ cores _.
    then_known _ _ _ (λ z. z.budget) _ _ _ _
    (row_part _ _ _ (number_law (codes "budget") 1 100000 (omega arith)) (1, (omega arith, omega arith))) (λ budget _.
    then_known _ _ _ (λ z. z.policy) _ _ _ _ (row_part _ _ _ policy_law (policies.Fifo, tt)) (λ policy _.
    then_known _ _ _ (λ z. z.turns) _ _ _ _ (row_part _ _ _ turns_law (turns.Round, tt)) (λ turns _.
    then_known _ _ _ (λ z. z.seed) _ _ _ _
    (row_part _ _ _ (number_law (codes "seed") 0 (2 ^ 32 - 1) (omega arith)) (0, (omega arith, omega arith))) (λ seed _.
    then_known _ _ _ (λ z. z.sets) _ _ _ _ (row_part _ _ _ sets_law (1, ((0, refl), omega arith))) (λ sets _.
    then_known _ _ _ (λ z. z.ways) _ _ _ _ (row_part _ _ _ (number_law (codes "ways") 1 (most_ways machine) (omega (arith, few_ways machine)))
    (1, (omega arith, some_way machine))) (λ ways _.
    last_known (record {
      machine = machine;
      cores = cores;
      budget = budget;
      policy = policy;
      turns = turns;
      seed = seed;
      sets = sets;
      ways = ways;
    }) _
    (λ z k. setup_is z machine cores budget policy turns seed sets ways k.1.1.1.1.1.1.1.0 k.1.1.1.1.1.1.0 k.1.1.1.1.1.0 k.1.1.1.1.0
    k.1.1.1.0 k.1.1.0 k.1.0 k.0)
    (refl, (refl, (refl, (refl, (refl, (refl, (refl, (refl, (refl, tt)))))))))))))))))))

header_part : IsPart IsHeader header_rows header_at
header_part =
    part_as HeaderFields IsHeader header_rows header_rows header_at
    (λ z h. record {
      limits = record {
        some_cores = h.1.1.1.0.0;
        cores = h.1.1.1.0.1;
        some_budget = h.1.1.1.1.0.0;
        budget = h.1.1.1.1.0.1;
        power_of_two = h.1.1.1.1.1.1.1.1.0.0;
        sets = h.1.1.1.1.1.1.1.1.0.1;
        some_ways = h.1.1.1.1.1.1.1.1.1.0.0;
        ways = omega (arith, h.1.1.1.1.1.1.1.1.1.0.1, few_ways z.machine);
      };
      ways = h.1.1.1.1.1.1.1.1.1.0.1;
      seed = omega (arith, h.1.1.1.1.1.1.1.0.1);
    })
    (λ z i. (
      tt,
      (
        tt,
        (
          tt,
          (
            (i.limits.some_cores, i.limits.cores),
            (
              (i.limits.some_budget, i.limits.budget),
              (
                tt,
                (
                  tt,
                  (
                    (omega arith, omega (arith, i.seed)),
                    ((i.limits.power_of_two, i.limits.sets), ((i.limits.some_ways, i.ways), tt)),
                  ),
                ),
              ),
            ),
          ),
        ),
      ),
    ))
    (λ z h. refl) header_fields

-- ---- the image's rows but the last

-- so many rows, of 32 bytes each
abbrev pub full_rows : ℕ → List ℕ → Rows
full_rows zero bytes = []
full_rows (suc n) bytes = bytes_row (take 32 bytes) ∷ full_rows n (drop 32 bytes)

-- the bytes of so many rows
abbrev IsFull : ℕ → List ℕ → Type 0
IsFull n bytes = (length bytes ≡ 32 * n) × AreBytes bytes

abbrev IsRowOfBytes : List ℕ → Type 0
IsRowOfBytes bytes = (length bytes ≡ 32) × AreBytes bytes

-- the bytes of a row, and of so many more
abbrev BeginsFull : ℕ → List ℕ → Type 0
BeginsFull n bytes = IsRowOfBytes (take 32 bytes) × IsFull n (drop 32 bytes)

full_to : (n : ℕ) (bytes : List ℕ) → BeginsFull n bytes → IsFull (suc n) bytes
full_to n bytes h =
    let both : take 32 bytes ++ drop 32 bytes ≡ bytes = take-append-drop 32 bytes in
    let long : length (take 32 bytes) + length (drop 32 bytes) ≡ length bytes = sym (length-append (take 32 bytes) (drop 32 bytes))
    ∙ ap length both in
    let first : length (take 32 bytes) ≡ 32 = h.0.0 in
    let others : length (drop 32 bytes) ≡ 32 * n = h.1.0 in
    (omega (arith, long, first, others), subst AreBytes both (AllByRecursion-append IsByte (take 32 bytes) (drop 32 bytes) h.0.1 h.1.1))

full_from : (n : ℕ) (bytes : List ℕ) → IsFull (suc n) bytes → BeginsFull n bytes
full_from n bytes h =
    let cut = AllByRecursion-take_drop IsByte 32 bytes h.1 in
    let long : length bytes ≡ 32 * suc n = h.0 in
    ((length-take-le 32 bytes (omega (arith, long)), cut.0), (omega (arith, length-drop 32 bytes, long), cut.1))

full_rows_part : (n : ℕ) → IsPart (IsFull n) (full_rows n) (full_rows_at n)
unfolding full_rows_at
full_rows_part zero =
    part_as (λ bytes. bytes ≡ []) (IsFull 0) (λ bytes. []) (full_rows 0) (full_rows_at 0)
    (λ bytes is. subst (IsFull 0) (sym is) (refl, tt)) (λ bytes h. nil_from_length bytes h.0) (λ bytes h. refl) (last_part [])
full_rows_part (suc n) =
    part_as (BeginsFull n) (IsFull (suc n)) (full_rows (suc n)) (full_rows (suc n)) (full_rows_at (suc n)) (full_to n) (full_from n)
    (λ bytes h. refl)
    (then_part IsRowOfBytes (one_line bytes_row) (row_at (bytes_row_of 32)) (take 32) (λ bytes. IsFull n (drop 32 bytes))
    (λ bytes. full_rows n (drop 32 bytes))
    (λ first rows. full_rows_at n rows >>= λ q. Ok (first ++ q.0, q.1))
    (row_part _ _ _ (bytes_law 32) (replicate 32 0, (refl, AllByRecursion-replicate IsByte 32 0 (omega arith))))
    (λ first fits. map_part (IsFull n) (full_rows n) (full_rows_at n) (λ bytes. (take 32 bytes ≡ first) × IsFull n (drop 32 bytes))
    (λ bytes. full_rows n (drop 32 bytes))
    (λ others. first ++ others)
    (λ others h. (take_at first others 32 fits.0, subst (IsFull n) (sym (drop_at first others 32 fits.0)) h))
    (λ others h. ap (full_rows n) (sym (drop_at first others 32 fits.0)))
    (λ bytes h. (drop 32 bytes, h.1, ap (λ front. front ++ drop 32 bytes) (sym h.0) ∙ take-append-drop 32 bytes))
    (full_rows_part n)))

-- ---- the opening

-- the image's rows before the last
abbrev pub full_of : ℕ → ℕ
full_of size = (size - 1) / 32

-- The bounds that an opening keeps.
pub record IsOpening (opening : OpeningValue) : Type 0 where
  pub header : IsHeader opening.setup
  pub some : 1 ≤ opening.size
  pub few : opening.size < 2 ^ 32
  pub full : length opening.front ≡ 32 * full_of opening.size
  pub bytes : AreBytes opening.front

-- the rows of an opening
abbrev pub rows_of_opening : OpeningValue → Rows
rows_of_opening z = header_rows z.setup ++ number_row (codes "image") z.size ∷ full_rows (full_of z.size) z.front

make_opening : Setup → ℕ → List ℕ → OpeningValue
make_opening setup size front = record { setup = setup; size = size; front = front }

make_opening_is : (z : OpeningValue) → make_opening z.setup z.size z.front ≡ z
unfolding make_opening
make_opening_is z = refl

opening_is : (z : OpeningValue) (setup : Setup) (size : ℕ) (front : List ℕ) → z.setup ≡ setup → z.size ≡ size → z.front ≡ front
    → make_opening setup size front ≡ z
opening_is z setup size front a b c = let all = make_opening_is z in cc

-- what is known of the opening before its front is read, and the bytes of the front
abbrev AreFullAt : Setup → ℕ → ℕ → OpeningValue → Type 0
AreFullAt setup size n z = ((z.size ≡ size) × ((z.setup ≡ setup) × Unit {0})) × (IsFull (full_of n) z.front × Unit {0})

-- the bytes in front, by the number of bytes that was read
front_known : (setup : Setup) (size : ℕ)
    → IsPart (λ z. AreFullAt setup size z.size z) (λ z. full_rows (full_of z.size) z.front ++ [])
    (λ rows. full_rows_at (full_of size) rows >>= λ front. Ok (make_opening setup size front.0, front.1))
unfolding make_opening
front_known setup size =
    part_as (AreFullAt setup size size) (λ z. AreFullAt setup size z.size z) (λ z. full_rows (full_of size) z.front ++ [])
    (λ z. full_rows (full_of z.size) z.front ++ []) _
    (λ z h. subst (λ n. AreFullAt setup size n z) (sym h.0.0) h) (λ z h. subst (λ n. AreFullAt setup size n z) h.0.0 h)
    (λ z h. ap (λ n. full_rows (full_of n) z.front ++ []) (sym h.0.0))
    (then_known _ _ _ (λ z. z.front) _ _ _ _ (full_rows_part (full_of size)) (λ front _.
    last_known (record { setup = setup; size = size; front = front }) _ (λ z k. opening_is z setup size front k.1.1.0 k.1.0 k.0)
    (refl, (refl, (refl, tt)))))

-- what its rows say, in their order
abbrev OpeningFields : OpeningValue → Type 0
OpeningFields z = Unit {0} × (IsHeader z.setup × (((1 ≤ z.size) × (z.size ≤ 2 ^ 32 - 1)) × (IsFull (full_of z.size) z.front × Unit {0})))

opening_fields : IsPart OpeningFields
    (λ z. header_rows z.setup ++ (number_row (codes "image") z.size ∷ (full_rows (full_of z.size) z.front ++ []))) opening_at
unfolding opening_at make_opening
opening_fields =
    then_known _ _ _ (λ z. z.setup) _ _ _ _ header_part (λ setup _.
    then_known _ _ _ (λ z. z.size) _ _ _ _
    (row_part _ _ _ (number_law (codes "image") 1 (2 ^ 32 - 1) (omega arith)) (1, (omega arith, omega arith))) (λ size _.
    front_known setup size))

pub opening_part : IsPart IsOpening rows_of_opening opening_at
opening_part =
    part_as OpeningFields IsOpening
    (λ z. header_rows z.setup ++ (number_row (codes "image") z.size ∷ (full_rows (full_of z.size) z.front ++ []))) rows_of_opening
    opening_at
    (λ z h. record { header = h.1.0; some = h.1.1.0.0; few = omega (arith, h.1.1.0.1); full = h.1.1.1.0.0; bytes = h.1.1.1.0.1 })
    (λ z i. (tt, (i.header, ((i.some, omega (arith, i.few)), ((i.full, i.bytes), tt)))))
    (λ z h. ap (λ (r : Rows). header_rows z.setup ++ (number_row (codes "image") z.size ∷ r))
    (append-nil (full_rows (full_of z.size) z.front)))
    opening_fields

-- ---- the opening of an image

-- rows of bytes by their indices
rows_from : (bytes : List ℕ) (index n : ℕ) → map (bytes_row_at bytes) (range_with_len index n) ≡ full_rows n (drop (32 * index) bytes)
rows_from bytes index zero = refl
rows_from bytes index (suc n) =
    let next : 32 * index + 32 ≡ 32 * (index + 1) = omega arith in
    ap (λ (r : Rows). bytes_row_at bytes index ∷ r)
    (rows_from bytes (index + 1) n ∙ ap (λ m. full_rows n (drop m bytes)) (sym next)
    ∙ ap (full_rows n) (sym (drop-drop 32 (32 * index) bytes)))

-- the rows of bytes in front, and of those behind them
rows_apart : (all n more : ℕ) (front last : List ℕ) → all ≡ n + more → length front ≡ 32 * n
    → full_rows all (front ++ last) ≡ full_rows n front ++ full_rows more last
rows_apart all zero more front last sum long =
    let rest : all ≡ more = omega (arith, sum) in
    ap (λ bytes. full_rows all (bytes ++ last)) (nil_from_length front long) ∙ ap (λ n. full_rows n last) rest
rows_apart zero (suc n) more front last sum long = absurd (omega (arith, sum))
rows_apart (suc all) (suc n) more front last sum long =
    let here : 32 ≤ length front = omega (arith, long) in
    let others : length (drop 32 front) ≡ 32 * n = omega (arith, length-drop 32 front, long) in
    ap (λ bytes. bytes_row bytes ∷ full_rows all (drop 32 (front ++ last))) (take-append-le 32 front last here)
    ∙ ap (λ bytes. bytes_row (take 32 front) ∷ full_rows all bytes) (drop-append-le 32 front last here)
    ∙ ap (λ (r : Rows). bytes_row (take 32 front) ∷ r) (rows_apart all n more (drop 32 front) last (omega (arith, sum)) others)

-- the bytes of an image in the rows before its last
abbrev pub front_of : List ℕ → List ℕ
front_of bytes = take (32 * full_of (length bytes)) bytes

-- the bytes in its last row
abbrev pub last_of : List ℕ → List ℕ
last_of bytes = drop (32 * full_of (length bytes)) bytes

-- the opening of a report of an image with these bytes
abbrev pub opening_of : Setup → List ℕ → OpeningValue
opening_of setup bytes = record { setup = setup; size = length bytes; front = front_of bytes }

full_within : (size : ℕ) → 32 * full_of size ≤ size
full_within size = omega arith

front_length : (bytes : List ℕ) → length (front_of bytes) ≡ 32 * full_of (length bytes)
front_length bytes = length-take-le (32 * full_of (length bytes)) bytes (full_within (length bytes))

pub opening_fits : (setup : Setup) (bytes : List ℕ) → IsHeader setup → AreBytes bytes → 1 ≤ length bytes → length bytes < 2 ^ 32
    → IsOpening (opening_of setup bytes)
opening_fits setup bytes header are some few = record {
  header = header;
  some = some;
  few = few;
  full = front_length bytes;
  bytes = (AllByRecursion-take_drop IsByte (32 * full_of (length bytes)) bytes are).0;
}

pub bytes_behind : (bytes : List ℕ) → AreBytes bytes → AreBytes (last_of bytes)
bytes_behind bytes are = (AllByRecursion-take_drop IsByte (32 * full_of (length bytes)) bytes are).1

-- so many rows of an image: those before its last, and more
rows_at : (bytes : List ℕ) (n more : ℕ) → n ≡ full_of (length bytes) + more
    → map (bytes_row_at bytes) (range_with_len 0 n) ≡ full_rows (full_of (length bytes)) (front_of bytes) ++ full_rows more (last_of bytes)
rows_at bytes n more sum =
    let before = full_of (length bytes) in
    rows_from bytes 0 n ∙ ap (full_rows n) (sym (take-append-drop (32 * before) bytes))
    ∙ rows_apart n before more (front_of bytes) (last_of bytes) sum (front_length bytes)

pub opening_rows_are : (setup : Setup) (bytes : List ℕ) → opening_rows setup bytes ≡ rows_of_opening (opening_of setup bytes)
opening_rows_are setup bytes =
    ap (λ (r : Rows). header_rows setup ++ number_row (codes "image") (length bytes) ∷ r)
    (rows_at bytes (full_of (length bytes)) 0 (omega arith) ∙ append-nil (full_rows (full_of (length bytes)) (front_of bytes)))

last_short : (bytes : List ℕ) → length (last_of bytes) ≤ 32
last_short bytes = omega (arith, length-drop (32 * full_of (length bytes)) bytes)

pub all_rows : (bytes : List ℕ) → 1 ≤ length bytes
    → map (bytes_row_at bytes) (range_with_len 0 ((length bytes + 31) / 32)) ≡ full_rows (full_of (length bytes)) (front_of bytes)
    ++ bytes_row (last_of bytes) ∷ []
all_rows bytes some =
    rows_at bytes ((length bytes + 31) / 32) 1 (omega (arith, some))
    ∙ ap (λ last. full_rows (full_of (length bytes)) (front_of bytes) ++ bytes_row last ∷ [])
    (take_all 32 (last_of bytes) (last_short bytes))

-- ---- bytes for an opening

opening_same : (z : OpeningValue) (bytes : List ℕ) → length bytes ≡ z.size → take (32 * full_of z.size) bytes ≡ z.front
    → opening_of z.setup bytes ≡ z
unfolding make_opening
opening_same z bytes long in_front =
    opening_is z z.setup (length bytes) (front_of bytes) refl (sym long) (sym (ap (λ size. take (32 * full_of size) bytes) long ∙ in_front))

-- an opening is the one of its bytes with any that fill them up
pub opening_filled : (z : OpeningValue) (last : List ℕ) → IsOpening z → length last ≡ z.size - length z.front
    → opening_of z.setup (z.front ++ last) ≡ z
opening_filled z last fits rest =
    let size : length (z.front ++ last) ≡ z.size = omega (arith, length-append z.front last, rest, fits.full, full_within z.size) in
    opening_same z (z.front ++ last) size (take_at z.front last (32 * full_of z.size) fits.full)

-- rows that begin an opening: zeros may be the rest of its bytes
pub begins_opening : (z : OpeningValue) (rows rest : Rows) → IsOpening z → rows ++ rest ≡ rows_of_opening z → BeginsOpening rows
begins_opening z rows rest fits are =
    let zeros : List ℕ = replicate (z.size - length z.front) 0 in
    let bytes : List ℕ = z.front ++ zeros in
    let same : opening_of z.setup bytes ≡ z = opening_filled z zeros fits (length-replicate (z.size - length z.front) 0) in
    let size : length bytes ≡ z.size = ap (λ o. o.size) same in
    record {
      setup = z.setup;
      header = fits.header;
      bytes = bytes;
      are_bytes = AllByRecursion-append IsByte z.front zeros fits.bytes
          (AllByRecursion-replicate IsByte (z.size - length z.front) 0 (omega arith));
      some = omega (arith, size, fits.some);
      few = omega (arith, size, fits.few);
      rest = rest;
      are = are ∙ ap rows_of_opening (sym same) ∙ sym (opening_rows_are z.setup bytes);
    }
