use Rattle.fragment_store.specs.Calls.{on_delete}
use Rattle.disk_shelf.proofs.disk_shelf.DiskShelf.delete.Goals as goal

pub returns-then-is_marked-clause-any_moment : goal.returns-then-is_marked-clause-any_moment
returns-then-is_marked-clause-any_moment g c open_ = c.rests.ensures.any_moment (record c.args.self.now.state { shelf = on_delete c.args.self.now.state.shelf c.args.name })
