-- Commands are compared whole: those that are the same by the test are one command, and each is the same as itself.
use Rattle.std.proofs.Common.{◌≡◌, ◌==◌, ℕ, Bool, true, false, ◌&&◌, nat_eq, List, [], ◌∷◌, refl, subst, ap, ◌∙◌, arith}
use Rattle.std.proofs.Math.Bool.{Bool-set}
use Rattle.std.proofs.lemmas.Bool.Decides.{Decides-eqb}
use Rattle.xfs_base.proofs.Booleans.{contrary, and_first, and_second, equal_itself}
use Rattle.xfs_base.proofs.NodeOrder.{same_node_is, same_node_itself}
use Rattle.xfs_base.specs.Nodes.{same_node}
use Rattle.xfs_base.specs.declared.segment.LogId.{LogId}
use Rattle.xfs_base.specs.declared.segment.Pass.{Pass}
use Rattle.xfs_base.specs.declared.segment.SegName.{SegName}
use Rattle.xfs_base.specs.declared.segment.SegRef.{SegRef}
use Rattle.wire_msg.specs.declared.body.Body.{Body}
use Rattle.wire_msg.specs.declared.body.Body.TheVariants as body
use Rattle.wire_msg.specs.declared.packet.Do.{Do}
use Rattle.wire_msg.specs.declared.packet.Do.TheVariants.{Begin, Deliver, Tick}
use Rattle.wire_msg.specs.declared.packet.Packet.{Packet}
use Rattle.wire_msg.specs.declared.registry.CkptDone.{CkptDone}
use Rattle.wire_msg.specs.declared.registry.Hello.{Hello}
use Rattle.board.specs.declared.command.Command.{Command}
use Rattle.board.specs.Heard.{is_told, is_heard}
use Rattle.board.specs.Comparing.{same_lists, same_segment, same_hello, same_done, is_hello, is_done, same_body, same_packet, same_do, same_command}

equal : (n m : ℕ) → (n == m) ≡ true → n ≡ m
equal n m e = (Decides-eqb n m).0 e

both : (a b : Bool) → a ≡ true → b ≡ true → (a && b) ≡ true
both true b h k = k
both false b h k = contrary h

module _ {X : Type 0} (same : X → X → Bool) where
  lists_are : ((x y : X) → same x y ≡ true → x ≡ y) → (xs ys : List X) → same_lists same xs ys ≡ true → xs ≡ ys
  lists_are exact [] [] e = refl
  lists_are exact [] (y ∷ ys) e = contrary e
  lists_are exact (x ∷ xs) [] e = contrary e
  lists_are exact (x ∷ xs) (y ∷ ys) e =
      ap (λ z. z ∷ xs) (exact x y (and_first (same x y) _ e)) ∙ ap (λ zs. y ∷ zs) (lists_are exact xs ys (and_second (same x y) _ e))

  lists_itself : ((x : X) → same x x ≡ true) → (xs : List X) → same_lists same xs xs ≡ true
  lists_itself itself [] = refl
  lists_itself itself (x ∷ xs) = both (same x x) _ (itself x) (lists_itself itself xs)

-- ---- what is the same is one

pass_is : (a b : Pass) → a.inc ≡ b.inc → a.att ≡ b.att → a ≡ b
pass_is a b inc att = ap (λ n. record { inc = n; att = a.att }) inc ∙ ap (λ n. record { inc = b.inc; att = n }) att

name_is : (a b : SegName) → a.log ≡ b.log → a.seq ≡ b.seq → a.pass ≡ b.pass → a ≡ b
name_is a b log seq pass =
    ap (λ n. record { log = n; seq = a.seq; pass = a.pass }) log
    ∙ ap (λ n. record { log = b.log; seq = n; pass = a.pass }) seq
    ∙ ap (λ n. record { log = b.log; seq = b.seq; pass = n }) pass

log_is : (a b : LogId) → a.0 ≡ b.0 → a ≡ b
log_is a b number = grind (arith, number)

segment_is : (a b : SegRef) → same_segment a b ≡ true → a ≡ b
segment_is a b e =
    let head = (a.name.log.0 == b.name.log.0) && (a.name.seq == b.name.seq) in
    let both = (a.name.pass.inc == b.name.pass.inc) && (a.name.pass.att == b.name.pass.att) in
    let name : head ≡ true = and_first head (both && (a.group == b.group)) e in
    let rest : (both && (a.group == b.group)) ≡ true = and_second head (both && (a.group == b.group)) e in
    let pass : both ≡ true = and_first both (a.group == b.group) rest in
    let log = equal a.name.log.0 b.name.log.0 (and_first (a.name.log.0 == b.name.log.0) (a.name.seq == b.name.seq) name) in
    let seq = equal a.name.seq b.name.seq (and_second (a.name.log.0 == b.name.log.0) (a.name.seq == b.name.seq) name) in
    let inc = equal a.name.pass.inc b.name.pass.inc (and_first (a.name.pass.inc == b.name.pass.inc) (a.name.pass.att == b.name.pass.att) pass) in
    let att = equal a.name.pass.att b.name.pass.att (and_second (a.name.pass.inc == b.name.pass.inc) (a.name.pass.att == b.name.pass.att) pass) in
    let group = equal a.group b.group (and_second both (a.group == b.group) rest) in
    ap (λ n. record { name = n; group = a.group }) (name_is a.name b.name (log_is a.name.log b.name.log log) seq (pass_is a.name.pass b.name.pass inc att))
    ∙ ap (λ n. record { name = b.name; group = n }) group

hello_is : (a b : Hello) → same_hello a b ≡ true → a ≡ b
hello_is a b e =
    let inc = equal a.inc b.inc (and_first (a.inc == b.inc) (a.ask == b.ask) e) in
    let ask = equal a.ask b.ask (and_second (a.inc == b.inc) (a.ask == b.ask) e) in
    ap (λ n. record { inc = n; ask = a.ask }) inc ∙ ap (λ n. record { inc = b.inc; ask = n }) ask

done_is : (a b : CkptDone) → same_done a b ≡ true → a ≡ b
done_is a b e =
    let head = (a.slot == b.slot) && (a.epoch == b.epoch) in
    let lists = same_lists same_segment a.parts b.parts && same_lists nat_eq a.horizon b.horizon in
    let tail = (a.ask == b.ask) && lists in
    let first : head ≡ true = and_first head tail e in
    let second : tail ≡ true = and_second head tail e in
    let last : lists ≡ true = and_second (a.ask == b.ask) lists second in
    let slot = equal a.slot b.slot (and_first (a.slot == b.slot) (a.epoch == b.epoch) first) in
    let epoch = equal a.epoch b.epoch (and_second (a.slot == b.slot) (a.epoch == b.epoch) first) in
    let ask = equal a.ask b.ask (and_first (a.ask == b.ask) lists second) in
    let parts = lists_are same_segment segment_is a.parts b.parts (and_first (same_lists same_segment a.parts b.parts) (same_lists nat_eq a.horizon b.horizon) last) in
    let horizon = lists_are nat_eq equal a.horizon b.horizon (and_second (same_lists same_segment a.parts b.parts) (same_lists nat_eq a.horizon b.horizon) last) in
    ap (λ n. record { slot = n; epoch = a.epoch; ask = a.ask; parts = a.parts; horizon = a.horizon }) slot
    ∙ ap (λ n. record { slot = b.slot; epoch = n; ask = a.ask; parts = a.parts; horizon = a.horizon }) epoch
    ∙ ap (λ n. record { slot = b.slot; epoch = b.epoch; ask = n; parts = a.parts; horizon = a.horizon }) ask
    ∙ ap (λ n. record { slot = b.slot; epoch = b.epoch; ask = b.ask; parts = n; horizon = a.horizon }) parts
    ∙ ap (λ n. record { slot = b.slot; epoch = b.epoch; ask = b.ask; parts = b.parts; horizon = n }) horizon

is_hello_is : (a : Hello) (b : Body) → is_hello a b ≡ true → body.Hello a ≡ b
is_hello_is a (body.Hello b) e = ap body.Hello (hello_is a b e)
is_hello_is a _ e = contrary e

is_done_is : (a : CkptDone) (b : Body) → is_done a b ≡ true → body.CkptDone a ≡ b
is_done_is a (body.CkptDone b) e = ap body.CkptDone (done_is a b e)
is_done_is a _ e = contrary e

body_is : (a b : Body) → same_body a b ≡ true → a ≡ b
body_is (body.Hello a) b e = is_hello_is a b e
body_is (body.CkptDone a) b e = is_done_is a b e
body_is _ b e = contrary e

packet_is : (a b : Packet) → same_packet a b ≡ true → a ≡ b
packet_is a b e =
    let last = (a.clock == b.clock) && same_body a.body b.body in
    let rest = same_node a.to b.to && last in
    let second : rest ≡ true = and_second (same_node a.from b.from) rest e in
    let third : last ≡ true = and_second (same_node a.to b.to) last second in
    let from = same_node_is a.from b.from (and_first (same_node a.from b.from) rest e) in
    let to = same_node_is a.to b.to (and_first (same_node a.to b.to) last second) in
    let clock = equal a.clock b.clock (and_first (a.clock == b.clock) (same_body a.body b.body) third) in
    let said = body_is a.body b.body (and_second (a.clock == b.clock) (same_body a.body b.body) third) in
    ap (λ n. record { from = n; to = a.to; clock = a.clock; body = a.body }) from
    ∙ ap (λ n. record { from = b.from; to = n; clock = a.clock; body = a.body }) to
    ∙ ap (λ n. record { from = b.from; to = b.to; clock = n; body = a.body }) clock
    ∙ ap (λ n. record { from = b.from; to = b.to; clock = b.clock; body = n }) said

do_is : (a b : Do) → same_do a b ≡ true → a ≡ b
do_is Begin Begin e = refl
do_is Begin (Deliver b) e = contrary e
do_is Begin Tick e = contrary e
do_is (Deliver a) Begin e = contrary e
do_is (Deliver a) (Deliver b) e = ap Deliver (packet_is a b e)
do_is (Deliver a) Tick e = contrary e
do_is Tick Begin e = contrary e
do_is Tick (Deliver b) e = contrary e
do_is Tick Tick e = refl

-- That a command is one of the registry's is shown in one way at most.
abbrev pub command : (what : Do) → ℕ → is_heard what ≡ true → Command
command what item heard = record { what = what; item = item; heard = heard }

pub heard_once : (what : Do) (item : ℕ) (h k : is_heard what ≡ true) → command what item h ≡ command what item k
heard_once what item h k = ap (command what item) (Bool-set (is_heard what) true h k)

same_what : (what other : Do) → what ≡ other → (item : ℕ) (h : is_heard what ≡ true) (k : is_heard other ≡ true) → command what item h ≡ command other item k
same_what what other same item h = subst (λ o. (k : is_heard o ≡ true) → command what item h ≡ command o item k) same (heard_once what item h)

pub command_is : (a b : Command) → same_command a b ≡ true → a ≡ b
command_is a b e =
    let what : a.what ≡ b.what = do_is a.what b.what (and_first (same_do a.what b.what) (a.item == b.item) e) in
    let item : a.item ≡ b.item = equal a.item b.item (and_second (same_do a.what b.what) (a.item == b.item) e) in
    same_what a.what b.what what a.item a.heard b.heard ∙ ap (λ n. command b.what n b.heard) item

-- ---- each is the same as itself

segment_itself : (a : SegRef) → same_segment a a ≡ true
segment_itself a =
    both _ _ (both _ _ (equal_itself a.name.log.0) (equal_itself a.name.seq))
    (both _ _ (both _ _ (equal_itself a.name.pass.inc) (equal_itself a.name.pass.att)) (equal_itself a.group))

hello_itself : (a : Hello) → same_hello a a ≡ true
hello_itself a = both _ _ (equal_itself a.inc) (equal_itself a.ask)

done_itself : (a : CkptDone) → same_done a a ≡ true
done_itself a =
    both _ _ (both _ _ (equal_itself a.slot) (equal_itself a.epoch))
    (both _ _ (equal_itself a.ask) (both _ _ (lists_itself same_segment segment_itself a.parts) (lists_itself nat_eq equal_itself a.horizon)))

body_itself : (a : Body) → is_told a ≡ true → same_body a a ≡ true
body_itself (body.Hello a) e = hello_itself a
body_itself (body.CkptDone a) e = done_itself a
body_itself _ e = contrary e

do_itself : (a : Do) → is_heard a ≡ true → same_do a a ≡ true
do_itself Begin e = refl
do_itself (Deliver a) e = both _ _ (same_node_itself a.from) (both _ _ (same_node_itself a.to) (both _ _ (equal_itself a.clock) (body_itself a.body e)))
do_itself Tick e = refl

pub command_itself : (a : Command) → same_command a a ≡ true
command_itself a = both _ _ (do_itself a.what a.heard) (equal_itself a.item)
