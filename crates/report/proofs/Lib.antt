-- What belongs to no one function: a text written over a buffer, a number's digits, one turn of the loop that writes a line, and the quoted lines.
pub mod Written
pub mod Decimal
pub mod Turns
pub mod Quoted
pub mod Contracts
