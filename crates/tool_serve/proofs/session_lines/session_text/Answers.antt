use Rattle.std.proofs.Common.{string_bytes, decimal}
use Rattle.tool_serve.proofs.SessionTexts.{refused_line}
use Rattle.tool_serve.proofs.session_lines.session_text.Goals as goal

pub returns-in-Refused : goal.returns-in-Refused
returns-in-Refused c =
    rw c.in-Refused.is
    (refused_line string_bytes c.format-in-Refused.result (decimal c.args.number) (decimal c.args.end.answered) c.in-Refused.code c.in-Refused.at
    c.format-in-Refused.ensures.ok)

pub returns-in-LinkFault : goal.returns-in-LinkFault
returns-in-LinkFault c = rw c.in-LinkFault.is c.format-in-LinkFault.ensures.ok

pub returns-in-NoMemory : goal.returns-in-NoMemory
returns-in-NoMemory c = rw c.in-NoMemory.is c.format-in-NoMemory.ensures.ok
