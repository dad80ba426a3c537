use Rattle.laws.proofs.Bodies.{bodies_lie}
use Rattle.laws.proofs.submissions_lay_the_body.Goals as goal

pub returns : goal.returns
returns g c = bodies_lie g.D.Disk.meaning g.D.Disk.did g.met.D.Disk.keeps
