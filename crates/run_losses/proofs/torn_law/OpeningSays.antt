-- What a scan of an owner is after an event, and what is sent and said to be lost in it.
use Rattle.std.proofs.Common.{◌≡◌, ◌⊎◌, ℕ, ◌<◌, true, Option, Some, None, refl, ap, ◌∙◌, inl, inr, arith}
use Rattle.xfs_base.specs.declared.node.NodeId.{NodeId}
use Rattle.xfs_base.specs.declared.segment.SegName.{SegName}
use Rattle.log_owner.specs.declared.known.Known.{Known}
use Rattle.log_owner.specs.declared.opening.Scanning.{Scanning}
use Rattle.log_owner.specs.declared.opening.Stage.TheVariants as stage
use Rattle.log_owner.specs.Opening.{opening_take, on_tick}
use Rattle.log_scan.specs.declared.input.In.{In as Input}
use Rattle.log_scan.specs.declared.input.In.TheVariants as input
use Rattle.log_scan.specs.declared.output.Out.TheVariants.{Lost}
use Rattle.log_scan.specs.Transition.{transition}
use Rattle.log_protocol.specs.Tables.{In}
use Rattle.node_base.specs.declared.effects.Effect.{Effect}
use Rattle.node_base.specs.declared.effects.Effect.TheVariants.{Send, Answer, Lose, Does}
use Rattle.node_base.specs.declared.questions.Asked.{Asked}
use Rattle.node_base.specs.declared.questions.Questions.{Questions}
use Rattle.node_base.specs.Room.{has_room}
use Rattle.version_model.specs.declared.act.Act.{Act}
use Rattle.version_model.specs.declared.act.Act.TheVariants.{Filed, Lost as LostAct}
use Rattle.wire_msg.specs.declared.body.Body.{Body}
use Rattle.wire_msg.specs.declared.body.Body.TheVariants as body
use Rattle.wire_msg.specs.declared.packet.Do.{Do}
use Rattle.wire_msg.specs.declared.packet.Do.TheVariants as done
use Rattle.wire_msg.specs.declared.packet.Packet.{Packet}
use Rattle.run_losses.proofs.torn_law.Numbers.{StaysOut, numbers_so, says_so}
use Rattle.run_losses.proofs.torn_law.OpeningTurns.{AskedFrom, CameBy, NotFetch, Took, Turn, packet_so, tick_so}
use Rattle.run_losses.proofs.torn_law.ScanAsks.{ReadFor, asks_for}

-- an input comes in an event
abbrev pub Comes : Known → Scanning → Do → Input → Type 0
Comes k s done.Begin i = ⊥
Comes k s (done.Deliver packet) i = CameBy k s packet i
Comes k s done.Tick i = i ≡ input.Tick

-- an act that says nothing of losses
abbrev pub NotLost : Act → Type 0
NotLost (LostAct node seg) = ⊥
NotLost _ = Unit {0}

module _ (k : Known) (s : Scanning) (what : Do) (last : ℕ) where
  -- its question is out by the number that it had, or by a later one than the last of the node, or none is out
  abbrev pub Renews : Asked → Type 0
  Renews a = (a ≡ s.asked) ⊎ ((a.own ≡ 0) ⊎ (last < a.ask))

  -- the scan took an input that came
  pub record TookOne (i : Input) (later : Scanning) : Type 0 where
    pub came : Comes k s what i
    pub scan : later.scan ≡ (transition s.scan i).state
    pub out : Renews later.asked

  -- the scan after the event: the same, or one that took an input
  abbrev pub After : Option Input → Scanning → Type 0
  After None later = later ≡ s
  After (Some i) later = TookOne i later

  -- a fetch that is sent asks for the segment that is read then
  abbrev pub Fetches : Option Input → SegName → Type 0
  Fetches None name = ⊥
  Fetches (Some i) name = (own : ℕ) × ReadFor (transition s.scan i).state.stage name own

  -- what is said to be lost the scan said so of
  abbrev pub Losing : Option Input → SegName → Type 0
  Losing None name = ⊥
  Losing (Some i) name = Comes k s what i × In (Lost name) (transition s.scan i).outs

  abbrev pub Sends : Option Input → Body → Type 0
  Sends x (body.Fetch m) = Fetches x m.name
  Sends x _ = Unit {0}

  abbrev pub DoesSo : Option Input → Effect → Type 0
  DoesSo x (Send to said) = Sends x said
  DoesSo x (Answer item answer) = Unit {0}
  DoesSo x (Lose seg) = Losing x seg
  DoesSo x (Does act) = NotLost act

  pub quiet_so : (x : Option Input) (to : NodeId) (b : Body) → NotFetch b → DoesSo x (Send to b)
  quiet_so x to (body.Fetch m) none = absurd none
  quiet_so x to _ none = tt

  pub acts_so : (x : Option Input) (name : SegName) → DoesSo x (Does (Filed name))
  acts_so x name = tt

  module _ (q : Questions) (fact : q.last ≡ last) (room : has_room last ≡ true) where
    renewed : (a b : Asked) → AskedFrom s a → StaysOut last a b → Renews b
    renewed a b (inl same) (inl kept) = inl (kept ∙ same)
    renewed a b (inr none) (inl kept) = inr (inl (ap (λ (x : Asked). x.own) (kept ∙ none)))
    renewed a b from (inr less) = inr (inr less)

    takes : (i : Input) → Comes k s what i → (a : Asked) → AskedFrom s a → Took (After (Some i)) (DoesSo (Some i)) q s i a
    takes i came a from = record {
      scans = λ owner low. record {
        came = came;
        scan = refl;
        out = renewed a _ from (numbers_so last room a owner low a q _ (transition s.scan i).outs (let e = fact in omega arith) (inl refl));
      };
      says = λ owner low.
          says_so (DoesSo (Some i)) (quiet_so (Some i)) (transition s.scan i).state.stage (λ name number server own read. (own, read)) owner low a q _
          (transition s.scan i).outs (asks_for s.scan i).fetches;
      loses = λ seg lost. (came, lost);
    }

module _ (k : Known) (s : Scanning) (q : Questions) (room : has_room q.last ≡ true) where
  pub packet_turns : (packet : Packet)
      → Turn (After k s (done.Deliver packet) q.last) (DoesSo k s (done.Deliver packet) q.last) q
      (opening_take (record { known = k; stage = stage.Scanning s }) q packet)
  packet_turns packet =
      let what = done.Deliver packet in
      packet_so (After k s what q.last) (DoesSo k s what q.last) q (quiet_so k s what q.last) (acts_so k s what q.last) k s refl packet
      (λ i came a from. takes k s what q.last q refl room i came a from)

  pub tick_turns : Turn (After k s done.Tick q.last) (DoesSo k s done.Tick q.last) q (on_tick (record { known = k; stage = stage.Scanning s }) q)
  tick_turns =
      tick_so (After k s done.Tick q.last) (DoesSo k s done.Tick q.last) q (quiet_so k s done.Tick q.last) (acts_so k s done.Tick q.last) k s refl
      (takes k s done.Tick q.last q refl room input.Tick refl s.asked (inl refl))
