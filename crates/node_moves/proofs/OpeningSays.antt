-- What an opening says on its way is what its scan asks and what its log sends; and what is next behind its scan is one of three things.
use Rattle.std.proofs.Common.{◌≡◌, ℕ, List, [], ◌∷◌, Option, Some, None, refl}
use Rattle.std.specs.List.{AllByRecursion}
use Rattle.client_log.specs.declared.output.Out.{Out as LogOut}
use Rattle.client_log.specs.declared.output.Out.TheVariants as log_out
use Rattle.group_map.specs.declared.group.Member.{Member}
use Rattle.log_owner.specs.declared.ended.Owner.{Owner}
use Rattle.log_owner.specs.declared.known.Known.{Known}
use Rattle.log_owner.specs.declared.opened.Progress.TheVariants as progress
use Rattle.log_owner.specs.declared.opening.Scanning.{Scanning}
use Rattle.log_owner.specs.Opening.{Moved, known_scanning, known_follow, sent_send, scanned, settles_over, send_one}
use Rattle.log_owner.specs.Sending.{fence, fetch, hello, store}
use Rattle.log_scan.specs.declared.output.Out.{Out}
use Rattle.log_scan.specs.declared.output.Out.TheVariants as out
use Rattle.node_base.specs.Asking.{asked_as, drawn_for}
use Rattle.node_base.specs.declared.questions.Asked.{Asked}
use Rattle.node_base.specs.declared.questions.Questions.{Questions}
use Rattle.node_base.specs.declared.effects.Effect.{Effect}
use Rattle.node_base.specs.declared.effects.Effect.TheVariants.{Lose}
use Rattle.segment_format.specs.declared.segment.Segment.{Segment}
use Rattle.xfs_base.specs.declared.fragment.Fragment.{Fragment}
use Rattle.xfs_base.specs.declared.segment.End.{End}
use Rattle.xfs_base.specs.declared.segment.SegName.{SegName}
use Rattle.xfs_base.specs.Steps.{still, steps}
use Rattle.xfs_base.proofs.Alls.{all_append}
use Rattle.node_moves.proofs.client_walk.LogTurns.{IsSend}

-- ---- the scan

-- what is next behind it, whatever it tells: it goes on, the log goes on behind the chain that was read, or a segment is lost
module _ (Goes : Moved → Type 0) (k : Known) (low : ℕ) (rests : (s : Scanning) → Goes (still (known_scanning k s)))
    (settles : (s : Scanning) (segments : List Segment) (end : End)
    → Goes (settles_over k s (record { segments = segments; end = end; low = low }) k.maps.groups))
    (lost : (name : SegName) → Goes (record { state = progress.Lost name; outs = Lose name ∷ [] })) where
  ends : (a : Asked) (q : Questions) (e : _) (outs : List Out) → ((s : Scanning) → Goes (known_follow k s e)) → (s : Scanning)
      → Goes (known_follow k s (steps (sent_send k.owner low) (record { asked = a; questions = q; ended = e }) outs).state.ended)
  unfolding known_follow sent_send
  ends a q e [] before = before
  ends a q e (out.Hello own ∷ outs) before = ends (asked_as a q own) (drawn_for a q own) e outs before
  ends a q e (out.Fence server ∷ outs) before = ends a q e outs before
  ends a q e (out.Fetch server name own ∷ outs) before = ends (asked_as a q own) (drawn_for a q own) e outs before
  ends a q e (out.Chain segments end prior ∷ outs) before = ends a q _ outs (λ s. settles s segments end)
  ends a q e (out.Lost name ∷ outs) before = ends a q _ outs (λ s. lost name)

  none_ends : (s : Scanning) → Goes (known_follow k s None)
  unfolding known_follow
  none_ends s = rests s

  pub known_follow_so : (a : Asked) (q : Questions) (outs : List Out) (s : Scanning) → Goes (known_follow k s (scanned k.owner low a q outs).state.ended)
  known_follow_so a q outs s = ends a q None outs none_ends s

-- what is so of each Hello, Fence and Fetch is so of all that a scan says
module _ (P : Effect → Type 0) (owner : Owner) (asks : (ask : ℕ) → P (hello owner.inc ask)) (fences : (server : ℕ) → P (fence owner server))
    (fetches : (name : SegName) (ask server : ℕ) → P (fetch name ask server)) (low : ℕ) where
  one_so : (s : _) (o : Out) → AllByRecursion P (sent_send owner low s o).outs
  unfolding sent_send
  one_so s (out.Hello own) = (asks _, tt)
  one_so s (out.Fence server) = (fences server, tt)
  one_so s (out.Fetch server name own) = (fetches name _ server, tt)
  one_so s (out.Chain segments end prior) = tt
  one_so s (out.Lost name) = tt

  pub scan_says : (s : _) (outs : List Out) → AllByRecursion P (steps (sent_send owner low) s outs).outs
  scan_says s [] = tt
  scan_says s (o ∷ outs) =
      all_append P (sent_send owner low s o).outs (steps (sent_send owner low) (sent_send owner low s o).state outs).outs (one_so s o)
      (scan_says (sent_send owner low s o).state outs)

-- ---- the log

-- what is so of each Store is so of all that a log says
pub log_says : (P : Effect → Type 0) → ((fragment : Fragment) (member : Member) → P (store fragment member)) → (before : Option End) (outs : List LogOut)
    → AllByRecursion P (steps send_one before outs).outs
unfolding send_one
log_says P stores before [] = tt
log_says P stores before (log_out.Send fragment member ∷ outs) = (stores fragment member, log_says P stores before outs)
log_says P stores before (log_out.Settled end rows ∷ outs) = log_says P stores (Some end) outs

-- where nothing is settled the end is as it was
pub sends_end : (before : Option End) (outs : List LogOut) → AllByRecursion IsSend outs → (steps send_one before outs).state ≡ before
unfolding send_one
sends_end before [] all = refl
sends_end before (log_out.Send fragment member ∷ outs) all = sends_end before outs all.1
sends_end before (log_out.Settled end rows ∷ outs) all = absurd all.0
