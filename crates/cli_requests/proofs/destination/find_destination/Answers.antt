use Rattle.cli_requests.proofs.Readings.{long_nowhere}
use Rattle.cli_requests.proofs.destination.find_destination.Goals as goal

pub returns-in-TooLong-clause-goes : goal.returns-in-TooLong-clause-goes
returns-in-TooLong-clause-goes c = λ bytes long. long_nowhere c.args.sessions c.none.result bytes c.args.line.now c.none.ensures c.in-TooLong.is long
