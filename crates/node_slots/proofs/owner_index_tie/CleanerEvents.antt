-- Each event of the cleaner is a run of the small world, after which it is seen there.
use Rattle.std.proofs.Common.{◌<◌, ℕ, sym, subst}
use Rattle.std.proofs.lemmas.List.Elements.{All-from_recursion}
use Rattle.cleaner_node.specs.declared.cleaner.Phase.{Phase}
use Rattle.cleaner_node.specs.declared.cleaner.Phase.TheVariants.{Down, Opening, Serving}
use Rattle.cleaner_node.specs.CleanerEvents.{takes}
use Rattle.index_tie.specs.Net.{Net}
use Rattle.headline.specs.Filed.{AreTexts, Texts}
use Rattle.wire_msg.specs.declared.packet.Do.{Do}
use Rattle.wire_msg.specs.declared.packet.Do.TheVariants.{Begin, Deliver, Tick}
use Rattle.node_slots.specs.owner_index_tie.CleanerEvents.{NewFor, CleanerDoes, EventGets, CleanerEventGoes}
use Rattle.node_slots.specs.owner_index_tie.CleanerMoves.{DoAnswers}
use Rattle.node_slots.specs.owner_index_tie.Filing.{IsSameLog}
use Rattle.node_slots.proofs.owner_index_tie.Moving.{cleaner_moves_answered, moves_later}
use Rattle.node_slots.proofs.owner_index_tie.Running.{texts_after, others_after}
use Rattle.node_slots.proofs.owner_index_tie.CleanerPhases.{OpensMoved, takes_so, stands, agrees, away}

-- what is asked of an opening is asked of it
opens_moved : (part : ℕ) (texts : Texts) (n : Net) (small : part < 8) (p : Phase) → OpensMoved (NewFor part texts n p) part texts n small p
opens_moved part texts n small (Down l) = tt
opens_moved part texts n small (Opening l o) = λ f s new. new
opens_moved part texts n small (Serving e) = tt

answers_come : (part : ℕ) (n : Net) (p : Phase) (what : Do) → EventGets part n p what → DoAnswers part n.sent what
answers_come part n p Begin gets = tt
answers_come part n p (Deliver packet) gets = gets.1
answers_come part n p Tick gets = tt

pub cleaner_event_goes : CleanerEventGoes
cleaner_event_goes part texts asked n cleaner what small agreed owed =
    let w = takes cleaner.peers cleaner.phase what in
    let new = NewFor part texts n cleaner.phase in
    let k = (takes_so new part texts n small asked cleaner.peers cleaner.phase what (opens_moved part texts n small cleaner.phase)
    (stands new part texts n small cleaner.phase agreed.phase agreed.moves) owed.gets owed.reopens).0
    (record { files = owed.files; asks = owed.asks }) in
    record {
      next = k.next;
      runs = k.runs;
      agrees = record {
        phase = agrees new part texts n small k.next w.state k.stands owed.writes;
        moves = moves_later part n.sent k.next.sent k.grows.sent w.state
            (cleaner_moves_answered part n.sent cleaner what agreed.moves (answers_come part n cleaner.phase what owed.gets));
      };
      filed = k.filed;
      more = k.grows.filed;
      others = λ l other. subst (IsSameLog l n.filed) (sym k.filed) (others_after texts 9 l other n.filed w.outs);
      named = λ are. subst (λ f. AreTexts texts f) (sym k.filed) (texts_after new texts 9 n.filed w.outs owed.files are);
      slots = k.grows.slots;
      epoch = k.grows.epoch;
      horizon = k.grows.horizon;
      parts = k.grows.parts;
      promised = k.grows.promised;
      away = away new part texts n small k.next w.state k.stands;
      sent = k.grows.sent;
      deleted = k.grows.deleted;
      questions = k.questions;
      kept = k.kept;
      does = All-from_recursion (CleanerDoes part k.questions k.next (n.filed.head 9)) w.outs k.says;
    }
