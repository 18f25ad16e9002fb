use Rattle.ow_plant.proofs.Room.{plant_counted}
use Rattle.ow_plant.proofs.machine.Plant.count_store.Goals as goal

pub invariant_of-self : goal.invariant_of-self
invariant_of-self c = plant_counted c.self.inside.armed c.self.inside.user_frames c.self.inside.seen.memory c.self.inside.live c.self.inside.points c.self.inside.reviving c.self.inside.traps c.self.inside.past c.self.inside.lent c.count_store.new.self c.self.invariant c.count_store.result c.count_store.ensures.exact c.count_store.ensures.ok c.count_store.ensures.err
