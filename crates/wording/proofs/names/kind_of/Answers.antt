use Rattle.std.proofs.Common.{rules, arith}
use Rattle.wording.proofs.KindNames.{named}
use Rattle.wording.specs.declared.names.Act.{Act}
use Rattle.wording.specs.declared.names.Kind.{Kind}
use Rattle.wording.proofs.names.kind_of.Goals as goal

pub returns-in-start : goal.returns-in-start
returns-in-start c = named c.args.name.now Kind.Start (omega arith) (search rules)

pub returns-in-update : goal.returns-in-update
returns-in-update c = named c.args.name.now Kind.Update (omega arith) (search rules)

pub returns-in-read : goal.returns-in-read
returns-in-read c = named c.args.name.now Kind.Read (omega arith) (search rules)

pub returns-in-batch : goal.returns-in-batch
returns-in-batch c = named c.args.name.now Kind.Batch (omega arith) (search rules)

pub returns-in-crash : goal.returns-in-crash
returns-in-crash c = named c.args.name.now Kind.Crash (omega arith) (search rules)

pub returns-in-push : goal.returns-in-push
returns-in-push c = named c.args.name.now (Kind.Device Act.Push) (omega arith) (search rules)

pub returns-in-send : goal.returns-in-send
returns-in-send c = named c.args.name.now (Kind.Device Act.Send) (omega arith) (search rules)

pub returns-in-confirmed : goal.returns-in-confirmed
returns-in-confirmed c = named c.args.name.now (Kind.Device Act.Confirmed) (omega arith) (search rules)

pub returns-in-drop : goal.returns-in-drop
returns-in-drop c = named c.args.name.now (Kind.Device Act.Drop) (omega arith) (search rules)

pub returns-in-receive : goal.returns-in-receive
returns-in-receive c = named c.args.name.now (Kind.Device Act.Receive) (omega arith) (search rules)

pub returns-in-pull : goal.returns-in-pull
returns-in-pull c = named c.args.name.now (Kind.Device Act.Pull) (omega arith) (search rules)

pub returns-in-accept : goal.returns-in-accept
returns-in-accept c = named c.args.name.now (Kind.Device Act.Accept) (omega arith) (search rules)

pub returns-in-serverdrop : goal.returns-in-serverdrop
returns-in-serverdrop c = named c.args.name.now (Kind.Device Act.Serverdrop) (omega arith) (search rules)
