-- What holds of each element of a list, and of what a step does.
use Rattle.std.proofs.Common.{◌≡◌, ℕ, Bool, true, cond, List, [], ◌∷◌, filter, Option, Some, None, sym, subst, ap, ◌∙◌, inl, inr, All}
use Rattle.std.specs.BTreeMap.{insert_entry}
use Rattle.std.specs.declared.cmp.Ordering.{Ordering}
use Rattle.std.specs.declared.cmp.Ordering.TheVariants.{Less, Equal, Greater}
use Rattle.std.specs.List.{AllByRecursion}
use Rattle.std.specs.Map.{remove_entry}
use Rattle.std.specs.Ordering.{match_ordering}
use Rattle.std.specs.Prelude.{IfSome}
use Rattle.std.proofs.lemmas.List.Elements.{All-nil, All-cons, All-append}
use Rattle.xfs_base.proofs.Booleans.{by_test}
use Rattle.log_protocol.specs.Tables.{In}
use Rattle.node_base.specs.declared.effects.Effect.{Effect}
use Rattle.node_base.specs.declared.effects.Effect.TheVariants.{Send, Answer}
use Rattle.node_base.specs.Beginning.{answers_unanswered}
use Rattle.node_base.specs.Effects.{packet_of, packets_of}
use Rattle.version_model.specs.declared.answer.Answer.{Answer as Answered}
use Rattle.wire_msg.specs.declared.body.Body.{Body}
use Rattle.wire_msg.specs.declared.packet.Packet.{Packet}
use Rattle.xfs_base.specs.declared.node.NodeId.{NodeId}

-- ---- lists

pub if_some : {X : Type 0} (P Q : X → Type 0) → ((x : X) → P x → Q x) → (o : Option X) → IfSome o P → IfSome o Q
if_some P Q weaker None h = tt
if_some P Q weaker (Some x) h = weaker x h

pub in_filter : {X : Type 0} (p : X → Bool) (x : X) (xs : List X) → In x xs → p x ≡ true → In x (filter p xs)
in_filter p x [] fact t = absurd fact
in_filter p x (y ∷ xs) (inl e) t = subst (λ (b : Bool). In x (cond b (y ∷ filter p xs) (filter p xs))) (sym (ap p (sym e) ∙ t)) (inl e)
in_filter p x (y ∷ xs) (inr later) t =
    by_test (λ zs. In x zs) (p y) (y ∷ filter p xs) (filter p xs) (λ u. inr (in_filter p x xs later t)) (λ u. in_filter p x xs later t)

-- ---- tables

module _ {K V : Type 0} (P : K × V → Type 0) where
  -- what holds of an entry under any key holds where it is put in
  pub all_insert : (cmp : K → K → Ordering) (es : List (K × V)) (k : K) (v : V) → ((q : K) → P (q, v)) → AllByRecursion P es
      → AllByRecursion P (insert_entry cmp es k v)
  all_insert cmp [] k v here all = (here k, tt)
  all_insert cmp (e ∷ es) k v here all =
      elim (cmp k e.0) as (λ (o : Ordering). AllByRecursion P (match_ordering o ((k, v) ∷ e ∷ es) ((e.0, v) ∷ es) (e ∷ insert_entry cmp es k v))) [
        | Less ↦ (here k, all)
        | Equal ↦ (here e.0, all.1)
        | Greater ↦ (all.0, all_insert cmp es k v here all.1)
      ]

  pub all_remove : (test : K → Bool) (es : List (K × V)) → AllByRecursion P es → AllByRecursion P (remove_entry test es)
  all_remove test [] all = tt
  all_remove test (e ∷ es) all =
      by_test (λ (rows : List (K × V)). AllByRecursion P rows) (test e.0) es (e ∷ remove_entry test es) (λ t. all.1) (λ t. (all.0, all_remove test es all.1))

-- ---- steps

-- an answer is no packet
pub answers_send : (P : Effect → Type 0) → ((item : ℕ) (answer : Answered) → P (Answer item answer)) → (item : Option ℕ) (answer : Answered)
    → AllByRecursion P (answers_unanswered item answer)
answers_send P each None answer = tt
answers_send P each (Some number) answer = (each number answer, tt)

-- what holds of the effects holds of their packets
module _ (P : Packet → Type 0) (D : Effect → Type 0) (node : NodeId)
    (each : (to : NodeId) (said : Body) → D (Send to said) → P (record { from = node; to = to; clock = 0; body = said })) where
  one_packet : (effect : Effect) → D effect → All P (packet_of node effect)
  one_packet (Send to said) does = All-cons P (record { from = node; to = to; clock = 0; body = said }) [] (each to said does) (All-nil P)
  one_packet _ does = All-nil P

  pub packets_all : (effects : List Effect) → AllByRecursion D effects → All P (packets_of node effects)
  packets_all [] all = All-nil P
  packets_all (effect ∷ effects) all = All-append P (packet_of node effect) (packets_of node effects) (one_packet effect all.0) (packets_all effects all.1)
