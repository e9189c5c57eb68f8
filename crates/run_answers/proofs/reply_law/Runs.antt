-- Each event of a node answers what comes, and a shelf changes only so.
use Rattle.std.proofs.Common.{◌≡◌, true}
use Rattle.core_world.specs.AnyNode.{any_step}
use Rattle.core_world.specs.declared.any_node.AnyNode.{AnyNode}
use Rattle.core_world.specs.declared.any_node.AnyNode.TheVariants as any
use Rattle.shelf_changes.specs.Changes.{EventsChangeByOne}
use Rattle.wire_msg.specs.declared.packet.Do.{Do}
use Rattle.wire_msg.specs.declared.packet.Do.TheVariants.{Begin, Deliver, Tick}
use Rattle.run_answers.proofs.reply_law.Cleaners.{cleaner_answers}
use Rattle.run_answers.proofs.reply_law.Clients.{client_answers}
use Rattle.run_answers.proofs.reply_law.Managers.{manager_answers}
use Rattle.run_answers.proofs.reply_law.Refusals.{client_ends}
use Rattle.run_answers.proofs.reply_law.Registries.{registry_answers}
use Rattle.run_answers.proofs.reply_law.Servers.{server_answers}
use Rattle.run_answers.proofs.reply_law.Shelves.{shelf_changes}
use Rattle.run_answers.proofs.reply_law.Takes.{manager_takes}
use Rattle.headline.specs.Dues.{has_counters}
use Rattle.run_answers.specs.reply_law.Runs.{EachQuestionIsAnswered}
use Rattle.headline.specs.Replies.{IsReplied, KeepsShelf}

replied : (node : AnyNode) (what : Do) → has_counters node ≡ true → IsReplied node what (any_step node what)
replied (any.Client c) Begin far = tt
replied (any.Client c) (Deliver packet) far = λ well. (client_answers c packet far well, client_ends c packet far well)
replied (any.Client c) Tick far = tt
replied (any.Manager m) Begin far = tt
replied (any.Manager m) (Deliver packet) far = λ well. (manager_answers m packet far well, manager_takes m packet far well)
replied (any.Manager m) Tick far = tt
replied (any.Server v) Begin far = tt
replied (any.Server v) (Deliver packet) far = λ well known. server_answers v packet far well known
replied (any.Server v) Tick far = tt
replied (any.Cleaner c) Begin far = tt
replied (any.Cleaner c) (Deliver packet) far = λ well. cleaner_answers c packet far well
replied (any.Cleaner c) Tick far = tt
replied (any.Registry r) Begin far = tt
replied (any.Registry r) (Deliver packet) far = λ well. registry_answers r packet far well
replied (any.Registry r) Tick far = tt

changes : EventsChangeByOne → (node : AnyNode) (what : Do) → KeepsShelf node what (any_step node what).node
changes law (any.Client c) what = tt
changes law (any.Manager m) what = tt
changes law (any.Server v) what = shelf_changes law v what
changes law (any.Cleaner c) what = tt
changes law (any.Registry r) what = tt

pub each_answered : EventsChangeByOne → EachQuestionIsAnswered
each_answered law node what = record { replied = replied node what; shelf = changes law node what }
