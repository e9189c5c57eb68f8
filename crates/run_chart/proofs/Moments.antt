-- What is looked up by the moment at which it was sent is what a search through all would find.
use Rattle.std.proofs.Common.{◌≡◌, ◌<◌, ◌≤◌, ℕ, ◌+◌, Bool, true, false, cond, not, ◌&&◌, ◌||◌, ◌==◌, nat_lt, List, [], ◌∷◌, ◌++◌, length, take, get_or, is_some, Option, Some, None, refl, sym, ap, subst, ◌∙◌, arith}
use Rattle.std.specs.Cmp.{nat_cmp_is}
use Rattle.std.specs.declared.cmp.Ordering.TheVariants.{Equal}
use Rattle.std.specs.List.{list_any, position, position_or_len}
use Rattle.std.specs.Ordering.{is_eq, nat_cmp, ordering_then}
use Rattle.std.proofs.lemmas.Bool.Decides.{nat_tests}
use Rattle.std.proofs.lemmas.List.{length-take-le, length_push, take_more}
use Rattle.std.proofs.lemmas.List.Folds.{list_any-append, position_or_len_push}
use Rattle.std.proofs.lemmas.List.Sums.{prefix_len-le-length}
use Rattle.indexmap.specs.IndexMap.{Updates, get}
use Rattle.wire_msg.specs.declared.packet.Packet.{Packet}
use Rattle.xfs_base.proofs.Booleans.{and_first, and_second, contrary, equal_itself}
use Rattle.xfs_base.proofs.NodeOrder.{same_node_is}
use Rattle.xfs_base.specs.Nodes.{kind_rank, number_of, same_node}
use Rattle.run_chart.specs.declared.moment.Comings.{Comings}
use Rattle.run_chart.specs.declared.moment.FirstRows.{FirstRows}
use Rattle.run_chart.specs.declared.moment.Moment.{Moment}
use Rattle.run_chart.specs.declared.row.Row.{Row}
use Rattle.run_chart.specs.Labels.{same_label, same_packet}
use Rattle.run_chart.specs.Marks.{row_sent, sends}
use Rattle.run_chart.specs.Moments.{HasPacketToo, HasRowToo, first_of, moment_of, packets_at, packets_in, place_if, row_found, row_when, same_moment, sent_when}

-- ---- moments

same_number : (a b : ℕ) → (a == b) ≡ true → a ≡ b
same_number a b e = grind (arith, nat_tests)

pub same_moment_is : (a b : Moment) → same_moment a b ≡ true → a ≡ b
same_moment_is a b e =
    let rest = and_second (a.kind == b.kind) ((a.number == b.number) && (a.clock == b.clock)) e in
    let kind : a.kind ≡ b.kind = same_number a.kind b.kind (and_first (a.kind == b.kind) ((a.number == b.number) && (a.clock == b.clock)) e) in
    let number : a.number ≡ b.number = same_number a.number b.number (and_first (a.number == b.number) (a.clock == b.clock) rest) in
    let clock : a.clock ≡ b.clock = same_number a.clock b.clock (and_second (a.number == b.number) (a.clock == b.clock) rest) in
    λ i. record { kind = kind i; number = number i; clock = clock i }

same_itself : (a : Moment) → same_moment a a ≡ true
same_itself a =
    ap (λ t. t && ((a.number == a.number) && (a.clock == a.clock))) (equal_itself a.kind)
    ∙ ap (λ t. t && (a.clock == a.clock)) (equal_itself a.number)
    ∙ equal_itself a.clock

-- moments that are one are the same
same_where : (a b : Moment) → a ≡ b → same_moment a b ≡ true
same_where a b e = subst (λ m. same_moment a m ≡ true) e (same_itself a)

-- ---- what was sent in a row has its moment, and what has its moment was sent in it

sends_when : (packet : Packet) (row : Row) → sends packet row ≡ true → row_when row ≡ sent_when packet
sends_when packet row e =
    let clock : row.clock ≡ packet.clock = same_number row.clock packet.clock (and_first (row.clock == packet.clock) (same_node row.node packet.from) e) in
    let node : row.node ≡ packet.from = same_node_is row.node packet.from (and_second (row.clock == packet.clock) (same_node row.node packet.from) e) in
    λ i. moment_of (node i) (clock i)

tests_alike : (clock kind number : ℕ) → ((clock == clock) && is_eq (ordering_then (nat_cmp kind kind) (nat_cmp number number))) ≡ true
tests_alike clock kind number =
    ap (λ t. t && is_eq (ordering_then (nat_cmp kind kind) (nat_cmp number number))) (equal_itself clock)
    ∙ ap (λ o. is_eq (ordering_then o (nat_cmp number number))) (sym (nat_cmp_is kind kind Equal refl))
    ∙ ap is_eq (sym (nat_cmp_is number number Equal refl))

when_sends : (packet : Packet) (row : Row) → row_when row ≡ sent_when packet → sends packet row ≡ true
when_sends packet row e =
    let clock : row.clock ≡ packet.clock = ap (λ (m : Moment). m.clock) e in
    let kind : kind_rank row.node ≡ kind_rank packet.from = ap (λ (m : Moment). m.kind) e in
    let number : number_of row.node ≡ number_of packet.from = ap (λ (m : Moment). m.number) e in
    let tests : ((row.clock == row.clock)
    && is_eq (ordering_then (nat_cmp (kind_rank row.node) (kind_rank row.node)) (nat_cmp (number_of row.node) (number_of row.node)))) ≡ sends packet row =
    λ i. (row.clock == clock i) && is_eq (ordering_then (nat_cmp (kind_rank row.node) (kind i)) (nat_cmp (number_of row.node) (number i)))
    in
    sym tests ∙ tests_alike row.clock (kind_rank row.node) (number_of row.node)

-- two tests that pass together are equal
same_test : (a b : Bool) → (a ≡ true → b ≡ true) → (b ≡ true → a ≡ true) → a ≡ b
same_test true b f g = sym (f refl)
same_test false true f g = g refl
same_test false false f g = refl

sends_same : (packet : Packet) (row : Row) → same_moment (row_when row) (sent_when packet) ≡ sends packet row
sends_same packet row =
    same_test (same_moment (row_when row) (sent_when packet)) (sends packet row)
    (λ e. when_sends packet row (same_moment_is (row_when row) (sent_when packet) e))
    (λ e. same_where (row_when row) (sent_when packet) (sends_when packet row e))

-- packets that are drawn as one were sent at one moment
packets_when : (a b : Packet) → same_packet a b ≡ true → sent_when a ≡ sent_when b
packets_when a b e =
    let rest = and_second (a.clock == b.clock) (same_node a.from b.from && (same_node a.to b.to && same_label a.body b.body)) e in
    let clock : a.clock ≡ b.clock =
    same_number a.clock b.clock (and_first (a.clock == b.clock) (same_node a.from b.from && (same_node a.to b.to && same_label a.body b.body)) e)
    in
    let node : a.from ≡ b.from = same_node_is a.from b.from (and_first (same_node a.from b.from) (same_node a.to b.to && same_label a.body b.body) rest) in
    λ i. moment_of (node i) (clock i)

-- ---- the first row

none_later : (o : Option ℕ) → first_of o None ≡ o
none_later None = refl
none_later (Some place) = refl

some_stays : (o later : Option ℕ) → is_some o ≡ true → first_of o later ≡ o
some_stays None later e = contrary e
some_stays (Some place) later e = refl

is_none : (o : Option ℕ) → is_some o ≡ false → o ≡ None
is_none None e = refl
is_none (Some place) e = contrary (sym e)

stays : (o : Option ℕ) (t : Bool) (place : ℕ) → (t ≡ true → is_some o ≡ true) → o ≡ first_of o (place_if t place)
stays o true place there = sym (some_stays o (Some place) (there refl))
stays o false place there = sym (none_later o)

-- a row whose moment has one already adds nothing
pub row_kept : (old : FirstRows) (row : Row) (place : ℕ) (m : Moment) → m ≡ row_when row → is_some (get same_moment old.rows m) ≡ true → HasRowToo old old row place
row_kept old row place m at there packet =
    stays (row_found old packet) (sends packet row) place
    (λ e. subst (λ k. is_some (get same_moment old.rows k) ≡ true) (at ∙ sends_when packet row e) there)

chosen : (t : Bool) (o : Option ℕ) (place : ℕ) → (t ≡ true → o ≡ None) → cond t (Some place) o ≡ first_of o (place_if t place)
chosen true o place none = sym (ap (λ x. first_of x (Some place)) (none refl))
chosen false o place none = sym (none_later o)

-- and else it is the row of its moment
pub row_added : (old new : FirstRows) (row : Row) (place : ℕ) (m : Moment) → m ≡ row_when row → is_some (get same_moment old.rows m) ≡ false
    → Updates same_moment old.rows new.rows m (Some place) → HasRowToo old new row place
row_added old new row place m at none updates packet =
    let had = row_found old packet in
    updates.0 (sent_when packet)
    ∙ ap (λ k. cond (same_moment k (sent_when packet)) (Some place) had) at
    ∙ ap (λ t. cond t (Some place) had) (sends_same packet row)
    ∙ chosen (sends packet row) had place
    (λ e. is_none had (subst (λ k. is_some (get same_moment old.rows k) ≡ false) (at ∙ sends_when packet row e) none))

-- the first place among some and one more
place_push : {X : Type 0} (p : X → Bool) (xs : List X) (x : X) → position p (xs ++ x ∷ []) ≡ first_of (position p xs) (place_if (p x) (length xs))
place_push p xs x =
    let first = position_or_len p xs in
    let count = length xs in
    let within : first ≤ count = prefix_len-le-length (λ y. not (p y)) xs in
    let pushed = position_or_len_push p xs x in
    let longer : length (xs ++ x ∷ []) ≡ count + 1 = length_push xs x in
    let at = λ (n : ℕ). cond (nat_lt n (length (xs ++ x ∷ []))) (Some n) None in
    elim (nat_lt first count) as (λ t. nat_lt first count ≡ t → position p (xs ++ x ∷ []) ≡ first_of (cond t (Some first) None) (place_if (p x) count)) [
      | true ↦ λ e.
          let apart : (first == count) ≡ false = grind (arith, nat_tests) in
          let low : nat_lt first (length (xs ++ x ∷ [])) ≡ true = grind (arith, nat_tests) in
          ap at (pushed ∙ ap (λ t. cond t (count + cond (p x) 0 1) first) apart) ∙ ap (λ t. cond t (Some first) None) low
      | false ↦ λ e.
          let all : (first == count) ≡ true = grind (arith, nat_tests) in
          let is : position_or_len p (xs ++ x ∷ []) ≡ count + cond (p x) 0 1 = pushed ∙ ap (λ t. cond t (count + cond (p x) 0 1) first) all in
          elim (p x) as (λ t. p x ≡ t → position p (xs ++ x ∷ []) ≡ place_if t count) [
            | true ↦ λ q.
                let here : count + cond (p x) 0 1 ≡ count = ap (λ t. count + cond t 0 1) q ∙ omega arith in
                let low : nat_lt count (length (xs ++ x ∷ [])) ≡ true = grind (arith, nat_tests) in
                ap at (is ∙ here) ∙ ap (λ t. cond t (Some count) None) low
            | false ↦ λ q.
                let past : count + cond (p x) 0 1 ≡ count + 1 = ap (λ t. count + cond t 0 1) q in
                let high : nat_lt (count + 1) (length (xs ++ x ∷ [])) ≡ false = grind (arith, nat_tests) in
                ap at (is ∙ past) ∙ ap (λ t. cond t (Some (count + 1)) None) high
          ] refl
    ] refl

-- a table that finds the rows so far finds one more
pub finds_more : (old new : FirstRows) (rows : List Row) (i : ℕ) (row : Row) → i < length rows → row ≡ get_or rows i row
    → ((packet : Packet) → row_found old packet ≡ row_sent (take i rows) packet) → HasRowToo old new row i
    → (packet : Packet) → row_found new packet ≡ row_sent (take (i + 1) rows) packet
finds_more old new rows i row within at so_far too packet =
    let front = take i rows in
    let count : length front ≡ i = length-take-le i rows (omega arith) in
    let more : take (i + 1) rows ≡ front ++ row ∷ [] = take_more rows i row within ∙ ap (λ r. front ++ r ∷ []) (sym at) in
    too packet
    ∙ ap (λ o. first_of o (place_if (sends packet row) i)) (so_far packet)
    ∙ ap (λ n. first_of (row_sent front packet) (place_if (sends packet row) n)) (sym count)
    ∙ sym (place_push (sends packet) front row)
    ∙ ap (λ rs. row_sent rs packet) (sym more)

-- ---- packets that come

pub or_none : (a : Bool) → (a || false) ≡ a
or_none true = refl
or_none false = refl

-- a packet is put behind those of its moment
pub packet_added : (old mid new : Comings) (one : Packet) (m : Moment) (its : List Packet) → m ≡ sent_when one → its ≡ packets_at old m ++ one ∷ []
    → Updates same_moment old.packets mid.packets m None → Updates same_moment mid.packets new.packets m (Some its) → HasPacketToo old new one
packet_added old mid new one m its at is out put packet =
    let here = sent_when packet in
    let had = get same_moment old.packets here in
    let was = list_any (same_packet packet) (packets_in had) in
    let t = same_moment m here in
    let found : get same_moment new.packets here ≡ cond t (Some its) (cond t None had) = put.0 here ∙ ap (λ o. cond t (Some its) o) (out.0 here) in
    ap (λ o. list_any (same_packet packet) (packets_in o)) found
    ∙ elim t as (λ s. t ≡ s → list_any (same_packet packet) (packets_in (cond s (Some its) (cond s None had))) ≡ (was || same_packet packet one)) [
      | true ↦ λ e.
          ap (λ ps. list_any (same_packet packet) ps) is
          ∙ ap (λ k. list_any (same_packet packet) (packets_at old k ++ one ∷ [])) (same_moment_is m here e)
          ∙ list_any-append (same_packet packet) (packets_in had) (one ∷ [])
          ∙ ap (λ b. was || b) (or_none (same_packet packet one))
      | false ↦ λ e.
          let other : same_packet packet one ≡ false =
          same_test (same_packet packet one) false
          (λ q. sym e ∙ same_where m here (at ∙ sym (packets_when packet one q)))
          (λ q. contrary q)
          in
          sym (or_none was) ∙ ap (λ b. was || b) (sym other)
    ] refl
